-- A step refused as disturbed: its named set can be done, and turns the named part. Assumes nothing.
use Rattle.std.proofs.Common.{◌≡◌, ℕ, suc, ◌<◌, List, [], ◌∷◌, length, refl, ap, ◌∙◌, inl, inr, arith}
use Rattle.std.specs.List.{AllByRecursion}
use Rattle.std.proofs.lemmas.List.{nil_from_length}
use Rattle.std.proofs.lemmas.Bool.{cases_lt}
use Rattle.sheets.specs.declared.refusals.Refusal.TheVariants.{Disturbed}
use Rattle.walkthroughs.specs.Depots.{Depot, State, Carrying, reads}
use Rattle.walkthroughs.specs.Disturbance.{SetDisturbs, move_at}
use Rattle.walkthroughs.specs.Firing.{after}
use Rattle.walkthroughs.specs.Lists.{times, SameMoves, Within}
use Rattle.walkthroughs.specs.Sets.{chosen}
use Rattle.walkthroughs.specs.Steps.{Accepted, StepRefused}
use Rattle.walkthroughs.specs.Unpickings.{Passes, moves_of, singles}
use Rattle.walkthroughs.proofs.Counts.{length-within}
use Rattle.walkthroughs.proofs.Disturbing.{Upsetting, alike-unless, beside-disturbs, order-upsets}
use Rattle.walkthroughs.proofs.Faulty.{NoneBefore, Orderly, accepted_from, orderly}
use Rattle.walkthroughs.proofs.Firings.{after_none, contradictory-within}
use Rattle.walkthroughs.proofs.Subsets.{Beside, chosen-within, number_beside}
use Rattle.walkthroughs.proofs.Unpicks.{unpicked_step}
use Rattle.walkthroughs.proofs.Walking.{never_both}

-- some of the moves of an orderly step are one
orderly-within : (d : Depot) (s : State) (moves set : List ℕ) → Orderly d s moves → Within set moves → 0 < length set → Orderly d s set
orderly-within d s moves set o w some = record { some = some; few = omega (arith, length-within set moves w, o.few); listed = λ m there. o.listed m (omega (arith, w m)); once = λ m. omega (arith, w m, o.once m); needs = λ m there. o.needs m (omega (arith, w m)); agreed = contradictory-within d s set moves w o.agreed }

pub single_moves : (moves : List ℕ) → moves_of (singles moves) ≡ moves
single_moves [] = refl
single_moves (m ∷ moves) = ap (λ l. m ∷ l) (single_moves moves)

pub all-single : (moves : List ℕ) → AllByRecursion (λ g. 0 < length g) (singles moves)
all-single [] = tt
all-single (m ∷ moves) = (omega arith, all-single moves)

module _ (d : Depot) (law : Carrying d) (s : State) (moves : List ℕ) (n p e : ℕ) (refusal : StepRefused d s moves (Disturbed n p e)) where
  none_before : NoneBefore d s moves
  none_before w low f = elim (refusal.first w f) [ inl less ↦ omega arith | inr same ↦ omega (arith, same.0) ]

  none_below : (k q i : ℕ) → k < n → SetDisturbs d s moves k q i → ⊥
  none_below k q i low b = elim (refusal.first (Disturbed k q i) b) [ inl less ↦ omega arith | inr same ↦ elim same.1 [ inl less ↦ omega arith | inr level ↦ omega (arith, level.0) ] ]

  some-chosen : 0 < length (chosen n moves)
  some-chosen = elim (cases_lt 0 (length (chosen n moves))) [ inl k ↦ k | inr k ↦ absurd (never_both (reads d (after d s (chosen n moves)) (move_at moves p) e) (reads d s (move_at moves p) e) (unchanged (nil_from_length (chosen n moves) (omega arith))) refusal.holds.otherwise) ]
    where
      unchanged : chosen n moves ≡ [] → reads d (after d s (chosen n moves)) (move_at moves p) e ≡ reads d s (move_at moves p) e
      unchanged none = rw (none, after_none d s) refl

  -- the named set, sent as one step, is accepted: a disturbance in it would have a lower set
  pub accepted_set : Accepted d s (chosen n moves)
  accepted_set =
      let o = orderly-within d s moves (chosen n moves) (orderly d s moves none_before) (chosen-within n moves) some-chosen in
      accepted_from d s (chosen n moves) o (alike-unless d s (chosen n moves) (λ b. lower (order-upsets d law s (chosen n moves) o.agreed b)))
    where
      below : (u : Upsetting d s (chosen n moves)) → Beside moves n u.set u.move → ⊥
      below u b = none_below b.number (suc b.place) u.part b.low (beside-disturbs d s moves n u.set u.move u.part b (omega (arith, refusal.holds.known)) u.otherwise)

      lower : Upsetting d s (chosen n moves) → ⊥
      lower u = below u (number_beside moves n u.set u.move u.within)

  -- and move by move in any order
  pub set-passes : (order : List ℕ) → SameMoves order (chosen n moves) → Passes d s (singles order) (after d s (chosen n moves))
  set-passes order same = unpicked_step d law s (chosen n moves) accepted_set (singles order) (all-single order) (λ x. ap (times x) (single_moves order) ∙ same x)
