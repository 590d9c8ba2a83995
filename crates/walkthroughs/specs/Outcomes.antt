-- What one move of a step does, judged at the start. Assumes nothing.
use Rattle.std.specs.Prelude.{◌≡◌, ℕ, ◌/◌, ◌%◌, Bool, cond, not, ◌&&◌, ◌||◌, List, [], ◌∷◌, ◌==◌}
use Rattle.depots.specs.Tables.{Effect}
use Rattle.formulas.specs.Truth.{stands_in}
use Rattle.walkthroughs.specs.declared.firing.Outcome.{Outcome}
use Rattle.walkthroughs.specs.Depots.{Depot, State}
use Rattle.walkthroughs.specs.Firing.{any, fires, fired_by}

-- The rows say which facts the fired effects of a move add, and which they remove.
pub record IsOutcome (d : Depot) (s : State) (m : ℕ) (o : Outcome) : Type 0 where
  pub adds : (f : ℕ) → stands_in o.adds f ≡ any (λ g. d.carries g f) (fired_by d s (λ e. e.settings) m)
  pub removes : (f : ℕ) → stands_in o.removes f ≡ any (λ g. d.carries f g) (fired_by d s (λ e. e.strikes) m)

-- One effect more, if it fires.
pub record WithEffect (d : Depot) (s : State) (e : Effect) (before after : Outcome) : Type 0 where
  pub adds : (f : ℕ) → stands_in after.adds f ≡ (stands_in before.adds f || any (λ g. d.carries g f) (fires d s (λ e. e.settings) e))
  pub removes : (f : ℕ) → stands_in after.removes f ≡ (stands_in before.removes f || any (λ g. d.carries f g) (fires d s (λ e. e.strikes) e))

-- The entries at the places of a set, in their order.
abbrev pub picked : {X : Type 0} → ℕ → List X → List X
picked n [] = []
picked n (x ∷ xs) = cond (n % 2 == 1) (x ∷ picked (n / 2) xs) (picked (n / 2) xs)

-- The outcomes of moves, each in its place.
abbrev pub AreOutcomes : Depot → State → List ℕ → List Outcome → Type 0
AreOutcomes d s [] outcomes = outcomes ≡ []
AreOutcomes d s (m ∷ moves) [] = ⊥
AreOutcomes d s (m ∷ moves) (o ∷ outcomes) = IsOutcome d s m o × AreOutcomes d s moves outcomes

-- One outcome does what some others do together.
pub record Together (others : List Outcome) (o : Outcome) : Type 0 where
  pub adds : (f : ℕ) → stands_in o.adds f ≡ any (λ x. stands_in x.adds f) others
  pub removes : (f : ℕ) → stands_in o.removes f ≡ any (λ x. stands_in x.removes f) others

-- The facts that an outcome leaves: it removes, then it adds.
abbrev pub left_by : List Bool → Outcome → State
left_by start o f = stands_in o.adds f || (stands_in start f && not (stands_in o.removes f))

-- The facts that the outcomes at the places of a set leave of those at the start.
abbrev pub left_of : List Bool → List Outcome → ℕ → State
left_of start outcomes set f = any (λ o. stands_in o.adds f) (picked set outcomes) || (stands_in start f && not (any (λ o. stands_in o.removes f) (picked set outcomes)))
