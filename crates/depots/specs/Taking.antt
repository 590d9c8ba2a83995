-- What a line, whose fields are lent, does to a depot. Assumes nothing.
use Rattle.std.specs.Prelude.{List, ℕ, Result}
use Rattle.facts.specs.declared.kinds.Kind.{Ghosts}
use Rattle.facts.specs.declared.names.NoFact.{NoFact}
use Rattle.facts.specs.Texts.{Listing}
use Rattle.sheets.specs.declared.letters.Letter.{Letter}
use Rattle.sheets.specs.declared.refusals.Refusal.{Refusal}
use Rattle.depots.specs.declared.depot.Depot.{Depot}
use Rattle.depots.specs.declared.fields.Fields.{Fields as LentFields}
use Rattle.depots.specs.Kinds.{Meaning, meaning_of}
use Rattle.depots.specs.Spelling.{LineRead, LineTaken}
use Rattle.depots.specs.Tables.{Tables, tables_of}
use Rattle.depots.specs.Wrong.{Fields, shown_fields}

module _ {K F : Type 0} (kind : Ghosts K F) (reading : Listing → List ℕ → Result F NoFact) where
  -- A line is taken into the first depot, which then is the second.
  abbrev pub TakesLine : Depot K F kind → Letter → LentFields → Result Unit Refusal → Depot K F kind → Type 0
  TakesLine d k f r e = LineTaken (meaning_of kind reading) (tables_of d) k (shown_fields f) r (tables_of e)

  -- A line is read under the tables of a depot, which gives what P says of it.
  abbrev pub ReadsLine : {X : Type 0} → Depot K F kind → Letter → LentFields → (Meaning F → Tables F → Fields → X → Type 0) → Result X Refusal → Type 0
  ReadsLine d k f P r = LineRead (meaning_of kind reading) (tables_of d) k (shown_fields f) (P (meaning_of kind reading) (tables_of d) (shown_fields f)) r
