-- Carrying among the facts that a sheet lists, by number, whatever their kind. Assumes nothing.
use Rattle.std.specs.Prelude.{◌≡◌, ℕ, Bool, false, List, map, Some, None, Option}
use Rattle.std.specs.Borrow.{Bor, MutBor}
use Rattle.facts.specs.Listed.{also_marked}
use Rattle.walkthroughs.specs.Depots.{numbered}

-- Carrying between two facts, if both are there.
abbrev pub between : {F : Type 0} → (F → F → Bool) → Option F → Option F → Bool
between carries None g = false
between carries (Some f) None = false
between carries (Some f) (Some g) = carries f g

-- The fact with a number, if it is listed.
abbrev pub listed_fact : {F : Type 0} → List F → ℕ → Option F
listed_fact facts n = numbered (map Some facts) n None

-- Carrying by number: between listed facts alone.
abbrev pub carries_among : {F : Type 0} → (F → F → Bool) → List F → ℕ → ℕ → Bool
carries_among carries facts f g = between carries (listed_fact facts f) (listed_fact facts g)

-- Calls mark, by a fact, the listed facts of which a test says so; other marks stay.
abbrev pub MarksBy : {F : Type 0} → (F → F → Bool) → List F → (Bor F → MutBor (List Bool) → MutBor (List Bool) → Type 0) → Type 0
MarksBy {F} by facts Calls = (fact : Bor F) (marks after : MutBor (List Bool)) → Calls fact marks after → after.now ≡ also_marked (by fact.now) facts marks.now
