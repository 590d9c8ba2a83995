-- The lowest of what is looked for. Assumes nothing.
use Rattle.std.specs.Prelude.{◌≡◌, ℕ, Bool, true, false, List, [], ◌∷◌, length, Some, None, Option}
use Rattle.std.specs.Borrow.{Bor}
use Rattle.std.specs.Option.{option_map}
use Rattle.depots.specs.declared.depot.Effect.{Effect as KeptEffect}
use Rattle.depots.specs.Tables as tables
use Rattle.depots.specs.Tables.{Effect}
use Rattle.formulas.specs.Truth.{stands_in}
use Rattle.sheets.specs.Faults.{NoLater}
use Rattle.walkthroughs.specs.Depots.{Depot, Listed, State, effect_of, move_of}
use Rattle.walkthroughs.specs.Disturbance.{OtherAt, Otherwise, move_at}
use Rattle.walkthroughs.specs.Firing.{after, any, clash, fires, settings_at, strikes_at}
use Rattle.walkthroughs.specs.Sets.{chosen, in_set}
use Rattle.walkthroughs.specs.declared.contradiction.Contradiction.{Contradiction}
use Rattle.walkthroughs.specs.declared.contradiction.Placed.{Placed}
use Rattle.walkthroughs.specs.declared.disturbance.Disturbance.{Disturbance}
use Rattle.walkthroughs.specs.declared.firing.Outcome.{Outcome}

-- What is found is wanted, and nothing that is wanted has a lower row of numbers; or nothing is wanted.
abbrev pub LowestBy : {X : Type 0} → (X → List ℕ) → (X → Type 0) → Option X → Type 0
LowestBy {X} row Wanted None = (x : X) → Wanted x → ⊥
LowestBy {X} row Wanted (Some x) = Wanted x × ((y : X) → Wanted y → NoLater (row x) (row y))

-- The rows of one to four numbers.
abbrev pub one : ℕ → List ℕ
one n = n ∷ []

abbrev pub two : ℕ × ℕ → List ℕ
two p = p.0 ∷ p.1 ∷ []

abbrev pub three : ℕ × ℕ × ℕ → List ℕ
three p = p.0 ∷ p.1 ∷ p.2 ∷ []

abbrev pub four : ℕ × ℕ × ℕ × ℕ → List ℕ
four p = p.0 ∷ p.1 ∷ p.2 ∷ p.3 ∷ []

-- The row of a disturbance: its set, then its place, then its part.
abbrev pub row_of : Disturbance → List ℕ
row_of x = three (x.set, x.place, x.part)

-- A disturbance by a set at a place outside it: a part of the move there reads otherwise at t than at s.
abbrev pub DisturbsAt : Depot → State → State → ℕ → ℕ → ℕ → Disturbance → Type 0
DisturbsAt d s t set place move x = (x.set ≡ set) × (x.place ≡ place) × (in_set set x.place ≡ false) × Otherwise d s t move x.part

-- A disturbance by a set, whether there are so many sets or not.
abbrev pub DisturbsBy : Depot → State → List ℕ → ℕ → Disturbance → Type 0
DisturbsBy d s moves set x = (x.set ≡ set) × OtherAt d s (after d s (chosen set moves)) moves set x.place x.part

-- An effect of a step as it is found: the place of its move, its number there, and what it is.
abbrev pub seen : Placed → ℕ × ℕ × Effect
seen x = (x.place, x.number, tables.effect_of x.effect.now)

-- The row of an effect of a step: its place, then its number.
abbrev pub row_of_effect : ℕ × ℕ × Effect → List ℕ
row_of_effect x = two (x.0, x.1)

-- An effect of a move passes a test.
abbrev pub PassesOf : Depot → ℕ → (Effect → Bool) → ℕ × ℕ × Effect → Type 0
PassesOf d move passes x = Listed x.1 (length (move_of d move).effects) × (effect_of d move x.1 ≡ x.2) × (passes x.2 ≡ true)

-- An effect of the move at one place passes a test.
abbrev pub PassesIn : Depot → ℕ → ℕ → (Effect → Bool) → ℕ × ℕ × Effect → Type 0
PassesIn d place move passes x = (x.0 ≡ place) × PassesOf d move passes x

-- An effect of a step's moves passes a test.
abbrev pub PassesAt : Depot → List ℕ → (Effect → Bool) → ℕ × ℕ × Effect → Type 0
PassesAt d moves passes x = Listed x.0 (length moves) × PassesOf d (move_at moves x.0) passes x

-- Of the effects that pass a test, the lowest is found, whatever the test is that calls answer.
abbrev pub FindsLowest : (Bor (KeptEffect ℕ) → Bool → Type 0) → ((Effect → Bool) → ℕ × ℕ × Effect → Type 0) → Option Placed → Type 0
FindsLowest Calls Wanted r = (passes : Effect → Bool) → ((effect : Bor (KeptEffect ℕ)) (answer : Bool) → Calls effect answer → answer ≡ passes (tables.effect_of effect.now)) → LowestBy row_of_effect (Wanted passes) (option_map seen r)

-- Some move of a step removes a fact.
abbrev pub is_removed : List Outcome → ℕ → Bool
is_removed outcomes f = any (λ o. stands_in o.removes f) outcomes

-- One of some settings carries a strike.
abbrev pub is_carried : Depot → List ℕ → ℕ → Bool
is_carried d settings f = any (λ g. d.carries g f) settings

-- An effect sets a fact that some move removes, if it fires.
abbrev pub sets_removed : Depot → State → List Outcome → Effect → Bool
sets_removed d s outcomes e = any (is_removed outcomes) (fires d s (λ x. x.settings) e)

-- An effect strikes a fact that one of some settings carries, if it fires.
abbrev pub strikes_carried : Depot → State → List ℕ → Effect → Bool
strikes_carried d s settings e = any (is_carried d settings) (fires d s (λ x. x.strikes) e)

-- The row of a contradiction: place and effect of the setting, then of the strike.
abbrev pub row_of_contradiction : Contradiction → List ℕ
row_of_contradiction x = four (x.setting_place, x.setting_effect, x.strike_place, x.strike_effect)

-- A contradiction of a step: an effect of the move at one place sets a fact that carries one that an effect of the move at a
-- place strikes, and both fire.
abbrev pub Contradicts : Depot → State → List ℕ → Contradiction → Type 0
Contradicts d s moves x = Listed x.setting_place (length moves) × Listed x.strike_place (length moves) × (clash d (settings_at d s (move_at moves x.setting_place) x.setting_effect) (strikes_at d s (move_at moves x.strike_place) x.strike_effect) ≡ true)
