-- What can be wrong with one of the fields of a line, which are counted from 1, and which is the first. Assumes nothing.
use Rattle.std.specs.Prelude.{◌≡◌, ℕ, ◌<◌, ◌≤◌, false, List, Some, None, Option}
use Rattle.sheets.specs.Names.{is_name}
use Rattle.sheets.specs.Numbered.{entry_at}
use Rattle.depots.specs.Moves.{move_named}

-- The field is no name.
abbrev pub NoName : List (List ℕ) → ℕ → Type 0
NoName fields n = (text : List ℕ) × (entry_at fields n ≡ Some text) × (is_name text ≡ false)

-- The field is none of the names of the listed moves.
abbrev pub Unlisted : List (List ℕ) → List (List ℕ) → ℕ → Type 0
Unlisted names fields n = (text : List ℕ) × (entry_at fields n ≡ Some text) × (move_named names text ≡ None)

-- An entry is the same as one before it.
abbrev pub Repeated : {X : Type 0} → List X → ℕ → Type 0
Repeated {X} entries n = (x : X) × (k : ℕ) × (k < n) × (entry_at entries k ≡ Some x) × (entry_at entries n ≡ Some x)

-- What is found is the first with something wrong, or none has it.
abbrev pub First : (ℕ → Type 0) → Option ℕ → Type 0
First Wrong None = (n : ℕ) → Wrong n → ⊥
First Wrong (Some n) = Wrong n × ((k : ℕ) → Wrong k → n ≤ k)
