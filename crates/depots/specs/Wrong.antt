-- What is wrong with the fields of a line, under the tables of the lines above it. Assumes nothing.
use Rattle.std.specs.Prelude.{◌≡◌, ℕ, ◌+◌, ◌-◌, ◌<◌, ◌≤◌, true, false, ◌⊎◌, List, length, Some, Result}
use Rattle.std.specs.Option.{option_map_or}
use Rattle.std.specs.Result.{result_err}
use Rattle.std.specs.Str.{bytes_eq}
use Rattle.sheets.specs.declared.letters.Letter.{Letter}
use Rattle.sheets.specs.declared.letters.Letter.TheVariants as letter
use Rattle.sheets.specs.declared.refusals.Refusal.{Refusal}
use Rattle.sheets.specs.declared.refusals.Refusal.TheVariants.{TableFull}
use Rattle.sheets.specs.Numbered.{entry_at}
use Rattle.facts.specs.declared.names.NoFact.{NoFact}
use Rattle.facts.specs.Listed.{number_of_text}
use Rattle.formulas.specs.Formulas.{Formula}
use Rattle.formulas.specs.Reading.{Spells}
use Rattle.formulas.specs.Resolving.{each_passes, is_listed}
use Rattle.facts.specs.Numbering.{has_form}
use Rattle.formulas.specs.Spelling.{size_of}
use Rattle.depots.specs.declared.fields.Fields.{Fields as LentFields}
use Rattle.depots.specs.declared.troubles.Trouble.{Trouble}
use Rattle.depots.specs.declared.troubles.Trouble.TheVariants.{NotItsForm, NotListed, Twice, AlwaysTrue}
use Rattle.depots.specs.Fields as fields
use Rattle.depots.specs.Kinds.{Meaning}
use Rattle.depots.specs.Settings.{list_reading}
use Rattle.depots.specs.Tables.{Move, Tables, listing}
use Rattle.depots.specs.Troubles.{refusal_of}

-- The second, third and fourth field of a line, empty where the line has none.
pub record Fields : Type 0 where
  pub second : List ℕ
  pub third : List ℕ
  pub fourth : List ℕ

-- The fields that lent ones show.
abbrev pub shown_fields : LentFields → Fields
shown_fields f = record { second = f.second.now; third = f.third.now; fourth = f.fourth.now }

-- What a field is to hold: nothing, the kind's word, a name that is not among those listed, a fact that is not listed, a
-- listed fact that is not started, a formula, or a list of facts.
pub data Sort : Type 0 where
  no_field : Sort
  word : Sort
  new_name : List (List ℕ) → Sort
  new_fact : Sort
  new_start : Sort
  formula : Sort
  fact_list : Sort

-- The sorts of a line's fields.
pub record Sorts : Type 0 where
  pub second : Sort
  pub third : Sort
  pub fourth : Sort

-- A line with one field after its letter.
abbrev alone : Sort → Sorts
alone s = record { second = s; third = no_field; fourth = no_field }

-- The most zones, matters, facts, moves, effects of a move, effects in all, and the largest that the formulas of a sheet
-- may be together. They stand one by one, since what follows names each.
abbrev pub most_zones : ℕ
most_zones = 12

abbrev pub most_matters : ℕ
most_matters = 64

abbrev pub most_facts : ℕ
most_facts = 128

abbrev pub most_moves : ℕ
most_moves = 64

abbrev pub most_of_move : ℕ
most_of_move = 16

abbrev pub most_effects : ℕ
most_effects = 256

abbrev pub most_size : ℕ
most_size = 1024

-- The deepest that a formula may be.
abbrev pub most_depth : ℕ
most_depth = 8

-- What is wrong with a field that is to hold a formula; `number` says which listed fact a text is.
abbrev pub FormulaWrong : (List ℕ → Result ℕ NoFact) → List ℕ → Trouble → Type 0
FormulaWrong number text NotItsForm = (p : Formula (List ℕ)) → Spells most_depth text p → each_passes (λ f. has_form (number f)) p ≡ false
FormulaWrong number text NotListed = (p : Formula (List ℕ)) × Spells most_depth text p × (each_passes (λ f. has_form (number f)) p ≡ true) × (each_passes (λ f. is_listed (number f)) p ≡ false)
FormulaWrong number text Twice = ⊥
FormulaWrong number text AlwaysTrue = ⊥

-- How many effects stand before those of the last move.
abbrev pub before_last : List Move → ℕ
before_last moves = option_map_or (λ v. v.effects_before) (entry_at moves (length moves)) 0

module _ {F : Type 0} (m : Meaning F) (t : Tables F) where
  -- Which listed fact a text is, by its number.
  abbrev pub number_among : List ℕ → Result ℕ NoFact
  number_among = number_of_text m.alike (m.reading (listing t)) t.facts

  -- What the fields of a line with a letter are to hold.
  abbrev pub sorts_of : Letter → Sorts
  sorts_of letter.Kind = alone word
  sorts_of letter.Zone = alone (new_name t.zones)
  sorts_of letter.Matter = alone (new_name t.matters)
  sorts_of letter.Fact = alone new_fact
  sorts_of letter.Start = alone new_start
  sorts_of letter.Move = record { second = new_name t.names; third = formula; fourth = no_field }
  sorts_of letter.Effect = record { second = formula; third = fact_list; fourth = fact_list }
  sorts_of letter.Goal = alone formula

  -- What is wrong with a field.
  abbrev pub FieldWrong : Sort → List ℕ → Trouble → Type 0
  FieldWrong no_field text trouble = ⊥
  FieldWrong word text trouble = (trouble ≡ NotItsForm) × (bytes_eq text m.wording ≡ false)
  FieldWrong (new_name listed) text trouble = fields.new_name listed text ≡ Some trouble
  FieldWrong new_fact text trouble = result_err (fields.new_fact m.alike m.certain (m.reading (listing t) text) t.facts) ≡ Some trouble
  FieldWrong new_start text trouble = result_err (fields.new_start (number_among text) t.started) ≡ Some trouble
  FieldWrong formula text trouble = FormulaWrong number_among text trouble
  FieldWrong fact_list text trouble = result_err (list_reading number_among text) ≡ Some trouble

  -- A refusal is that of what is wrong with a field, which it names.
  abbrev pub WrongAt : ℕ → Sort → List ℕ → Refusal → Type 0
  WrongAt field sort text w = (trouble : Trouble) × FieldWrong sort text trouble × (refusal_of (Some trouble) field ≡ Some w)

  -- What is wrong with the fields of a line.
  abbrev pub FieldsWrong : Letter → Fields → Refusal → Type 0
  FieldsWrong k f w = WrongAt 2 (sorts_of k).second f.second w ⊎ (WrongAt 3 (sorts_of k).third f.third w ⊎ WrongAt 4 (sorts_of k).fourth f.fourth w)

  -- A formula takes the formulas over what they may be together.
  abbrev pub TooLarge : List ℕ → Type 0
  TooLarge text = (p : Formula (List ℕ)) × Spells most_depth text p × (most_size < t.size + size_of p)

  -- A line takes a table over its limit.
  abbrev pub Overfull : Letter → Fields → Type 0
  Overfull letter.Kind f = ⊥
  Overfull letter.Zone f = most_zones ≤ length t.zones
  Overfull letter.Matter f = most_matters ≤ length t.matters
  Overfull letter.Fact f = most_facts ≤ length t.facts
  Overfull letter.Start f = ⊥
  Overfull letter.Move f = (most_moves ≤ length t.moves) ⊎ TooLarge f.third
  Overfull letter.Effect f = (most_effects ≤ length t.effects) ⊎ ((most_of_move ≤ length t.effects - before_last t.moves) ⊎ TooLarge f.second)
  Overfull letter.Goal f = TooLarge f.second

  -- What is wrong with a line that is laid out as it should be.
  abbrev pub LineWrong : Letter → Fields → Refusal → Type 0
  LineWrong k f w = FieldsWrong k f w ⊎ ((w ≡ TableFull) × Overfull k f)
