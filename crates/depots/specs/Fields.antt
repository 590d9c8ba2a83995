-- How the fields of a line are read, under what the lines above list. Assumes nothing.
use Rattle.std.specs.Prelude.{ℕ, Bool, cond, List, is_some, Some, None, Ok, Err, Option, Result, ◌==◌}
use Rattle.std.specs.List.{list_any}
use Rattle.sheets.specs.Listed.{place_of, first_from}
use Rattle.sheets.specs.Names.{is_name}
use Rattle.facts.specs.declared.names.NoFact.{NoFact}
use Rattle.facts.specs.declared.names.NoFact.TheVariants as none
use Rattle.depots.specs.declared.troubles.Trouble.{Trouble}
use Rattle.depots.specs.declared.troubles.Trouble.TheVariants.{NotItsForm, NotListed, Twice, AlwaysTrue}

-- What is wrong with a text that is to be a new name, where it is listed already or not.
abbrev pub unlisted_name : Bool → List ℕ → Option Trouble
unlisted_name is_listed text = cond (is_name text) (cond is_listed (Some Twice) None) (Some NotItsForm)

-- What is wrong with a field that lists a new name.
abbrev pub new_name : List (List ℕ) → List ℕ → Option Trouble
new_name listed text = unlisted_name (is_some (place_of text listed)) text

-- Why a text is no fact, as a trouble with its field.
abbrev pub as_trouble : NoFact → Trouble
as_trouble none.NotItsForm = NotItsForm
as_trouble none.NotListed = NotListed

-- A field that lists a new fact: what was read, unless it is listed already or always true.
abbrev pub new_fact : {F : Type 0} → (F → F → Bool) → (F → Bool) → Result F NoFact → List F → Result F Trouble
new_fact same certain (Err why) facts = Err (as_trouble why)
new_fact same certain (Ok f) facts = cond (is_some (first_from (same f) 1 facts)) (Err Twice) (cond (certain f) (Err AlwaysTrue) (Ok f))

-- A number stands in a list.
abbrev pub among : ℕ → List ℕ → Bool
among n = list_any (λ m. m == n)

-- A field that starts a listed fact, which must not be started already.
abbrev pub new_start : Result ℕ NoFact → List ℕ → Result ℕ Trouble
new_start (Err why) started = Err (as_trouble why)
new_start (Ok n) started = cond (among n started) (Err Twice) (Ok n)
