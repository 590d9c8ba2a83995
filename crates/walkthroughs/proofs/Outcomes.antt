-- The outcomes of moves, one after the other. Assumes nothing.
use Rattle.std.proofs.Common.{◌≡◌, ℕ, suc, List, [], ◌∷◌, ◌++◌, length, sym, refl, ap, subst}
use Rattle.walkthroughs.specs.declared.firing.Outcome.{Outcome}
use Rattle.walkthroughs.specs.Depots.{Depot, State}
use Rattle.walkthroughs.specs.Outcomes.{AreOutcomes, IsOutcome}

module _ (d : Depot) (s : State) where
  -- those of some moves and of one more
  pub outcomes_more : (ms : List ℕ) (os : List Outcome) (m : ℕ) (o : Outcome) → AreOutcomes d s ms os → IsOutcome d s m o → AreOutcomes d s (ms ++ m ∷ []) (os ++ o ∷ [])
  outcomes_more [] os m o none is = subst (λ l. AreOutcomes d s (m ∷ []) (l ++ o ∷ [])) (sym none) (is, refl)
  outcomes_more (k ∷ ms) [] m o are is = absurd are
  outcomes_more (k ∷ ms) (p ∷ os) m o are is = (are.0, outcomes_more ms os m o are.1 is)

  -- one for each move
  pub length-outcomes : (ms : List ℕ) (os : List Outcome) → AreOutcomes d s ms os → length os ≡ length ms
  length-outcomes [] os none = ap length none
  length-outcomes (k ∷ ms) [] are = absurd are
  length-outcomes (k ∷ ms) (p ∷ os) are = ap suc (length-outcomes ms os are.1)
