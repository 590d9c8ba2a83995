-- The plain kind: a fact is a listed matter. Assumes nothing.
use Rattle.std.specs.Prelude.{ℕ, Bool, false, cond, List, [], Some, None, Ok, Err, Option, Result, ◌==◌, slice_index_or}
use Rattle.sheets.specs.Listed.{place_of}
use Rattle.sheets.specs.Names.{is_name}
use Rattle.facts.specs.declared.names.NoFact.{NoFact}
use Rattle.facts.specs.declared.names.NoFact.TheVariants.{NotItsForm, NotListed}
use Rattle.facts.specs.declared.plain.PlainFact.{PlainFact}

-- The fact of the matter at a place, if it has one.
abbrev pub plain_fact : Option ℕ → Result PlainFact NoFact
plain_fact None = Err NotListed
plain_fact (Some m) = Ok (record { matter = m })

-- A text is a fact if it is a listed matter; if it is not even a name, it has not the form of a fact.
abbrev pub plain_reading : List (List ℕ) → List ℕ → Result PlainFact NoFact
plain_reading matters text = cond (is_name text) (plain_fact (place_of text matters)) (Err NotItsForm)

-- Two facts are the same if they are of one matter. A fact carries only itself.
abbrev pub plain_same : PlainFact → PlainFact → Bool
plain_same a b = a.matter == b.matter

-- No fact is always true.
abbrev pub plain_certain : PlainFact → Bool
plain_certain f = false

-- The text of a fact.
abbrev pub plain_spelled : List (List ℕ) → PlainFact → List ℕ
plain_spelled matters f = slice_index_or matters f.matter []
