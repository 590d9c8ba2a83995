-- How lines spell tables. Assumes nothing.
use Rattle.std.specs.Prelude.{◌≡◌, ℕ, ◌+◌, ◌⊎◌, List, [], ◌∷◌, ◌++◌, length, Some, None, Ok, Result, MatchResult, slice_index_or}
use Rattle.sheets.specs.declared.faults.Fault.{Fault}
use Rattle.sheets.specs.declared.faults.Sheet.TheVariants.{Depot}
use Rattle.sheets.specs.declared.layout.Above.{Above}
use Rattle.sheets.specs.declared.letters.Letter.{Letter}
use Rattle.sheets.specs.declared.letters.Letter.TheVariants as letter
use Rattle.sheets.specs.declared.refusals.Refusal.{Refusal}
use Rattle.sheets.specs.declared.refusals.Refusal.TheVariants.{NoMemory}
use Rattle.sheets.specs.Faults.{Lowest, SheetRefused, SheetFaultless}
use Rattle.sheets.specs.Layout.{LayoutFault, Unfinished, above_of, depot_limit, fields, letter_on}
use Rattle.sheets.specs.Lines.{Line, lines_of}
use Rattle.formulas.specs.Formulas.{Formula}
use Rattle.formulas.specs.Reading.{Spells}
use Rattle.formulas.specs.Resolving.{Numbered}
use Rattle.formulas.specs.Spelling.{size_of}
use Rattle.depots.specs.Kinds.{Meaning}
use Rattle.depots.specs.Settings.{list_reading}
use Rattle.depots.specs.Tables.{Tables, listing, no_tables, with_zones, with_matters, with_facts, with_started, with_moves, with_effects, with_formulas, with_goal}
use Rattle.depots.specs.Wrong.{Fields, LineWrong, most_depth, number_among}

-- The fields of a line after its letter.
abbrev pub fields_on : Line → Fields
fields_on l = record { second = slice_index_or (fields l) 1 []; third = slice_index_or (fields l) 2 []; fourth = slice_index_or (fields l) 3 [] }

module _ {F : Type 0} (m : Meaning F) where
  -- A text spells the formula that is listed last in the second tables, which are the first but for it.
  pub record AddsFormula (t : Tables F) (text : List ℕ) (u : Tables F) : Type 0 where
    pub spelled : Formula (List ℕ)
    pub spells : Spells most_depth text spelled
    pub listed : Formula ℕ
    pub numbered : Numbered (number_among m t) spelled listed
    pub adds : u ≡ with_formulas t (t.formulas ++ listed ∷ []) (t.size + size_of spelled)

  -- What a line adds to the tables t, which then are u.
  abbrev pub Adds : Tables F → Letter → Fields → Tables F → Type 0
  Adds t letter.Kind f u = u ≡ t
  Adds t letter.Zone f u = u ≡ with_zones t (t.zones ++ f.second ∷ [])
  Adds t letter.Matter f u = u ≡ with_matters t (t.matters ++ f.second ∷ [])
  Adds t letter.Fact f u = (fact : F) × (m.reading (listing t) f.second ≡ Ok fact) × (u ≡ with_facts t (t.facts ++ fact ∷ []) (t.texts ++ f.second ∷ []))
  Adds t letter.Start f u = (n : ℕ) × (number_among m t f.second ≡ Ok n) × (u ≡ with_started t (t.started ++ n ∷ []))
  Adds t letter.Move f u = (v : Tables F) × AddsFormula t f.third v × (u ≡ with_moves v (v.names ++ f.second ∷ []) (v.moves ++ record { need = length v.formulas; effects_before = length v.effects } ∷ []))
  Adds t letter.Effect f u = (v : Tables F) × AddsFormula t f.second v × ((settings strikes : List ℕ) × (list_reading (number_among m t) f.third ≡ Ok settings) × (list_reading (number_among m t) f.fourth ≡ Ok strikes) × (u ≡ with_effects v (v.effects ++ record { condition = length v.formulas; settings = settings; strikes = strikes } ∷ [])))
  Adds t letter.Goal f u = (v : Tables F) × AddsFormula t f.second v × (u ≡ with_goal v (length v.formulas))

  -- What is read of a line is x, of which P holds, where nothing is wrong with the line; else the lowest is told. Memory can
  -- be wanting.
  abbrev pub LineRead : {X : Type 0} → Tables F → Letter → Fields → (X → Type 0) → Result X Refusal → Type 0
  LineRead t k f P r = MatchResult r (λ x. ((w : Refusal) → LineWrong m t k f w → ⊥) × P x) (λ w. (w ≡ NoMemory) ⊎ Lowest (LineWrong m t k f) w)

  -- A line is taken: where nothing is wrong with it, it adds its entry.
  abbrev pub LineTaken : Tables F → Letter → Fields → Result Unit Refusal → Tables F → Type 0
  LineTaken t k f r u = LineRead t k f (λ _. Adds t k f u) r

  -- Lines, one after the other, take the tables t to u.
  abbrev pub SpelledFrom : Tables F → List Line → Tables F → Type 0
  SpelledFrom t [] u = u ≡ t
  SpelledFrom t (l ∷ ls) u = (k : Letter) × (v : Tables F) × (letter_on l ≡ Some k) × Adds t k (fields_on l) v × SpelledFrom v ls u

  -- Lines spell tables.
  abbrev pub Spelled : List Line → Tables F → Type 0
  Spelled = SpelledFrom no_tables

  -- What is wrong with a line below what stands above it, under the tables t: its layout, or its fields.
  abbrev pub WrongUnder : Tables F → Above → Line → Refusal → Type 0
  WrongUnder t a l w = LayoutFault a l w ⊎ ((k : Letter) × (letter_on l ≡ Some k) × LineWrong m t k (fields_on l) w)

  -- A line is read below what stands above it: its letter is told where nothing is wrong with it, and then it adds its
  -- entry; else the lowest is told. Memory can be wanting.
  abbrev pub LineAdded : Tables F → Above → Line → Result Letter Refusal → Tables F → Type 0
  LineAdded t a l r u = MatchResult r (λ k. (letter_on l ≡ Some k) × ((w : Refusal) → WrongUnder t a l w → ⊥) × Adds t k (fields_on l) u) (λ w. (w ≡ NoMemory) ⊎ Lowest (WrongUnder t a l) w)

  -- What is wrong with a line below others: its layout, or under the tables that those spell, its fields.
  abbrev pub Wrong : List Line → Line → Refusal → Type 0
  Wrong above l w = LayoutFault (above_of above) l w ⊎ ((t : Tables F) × Spelled above t × ((k : Letter) × (letter_on l ≡ Some k) × LineWrong m t k (fields_on l) w))

  -- The refusal of a depot sheet.
  abbrev pub DepotRefused : List ℕ → ℕ → Refusal → Type 0
  DepotRefused = SheetRefused depot_limit Wrong Unfinished

  -- A depot sheet with no fault, whose lines spell tables.
  pub record DepotRead (s : List ℕ) (t : Tables F) : Type 0 where
    pub faultless : SheetFaultless depot_limit Wrong Unfinished s
    pub spelled : Spelled (lines_of s) t

  -- What is told of a depot sheet that is not read: its refusal or, with no sheet and line, that memory was wanting.
  abbrev pub DepotTold : List ℕ → Fault → Type 0
  DepotTold s f = ((f.sheet ≡ None) × (f.line ≡ 0) × (f.refusal ≡ NoMemory)) ⊎ ((f.sheet ≡ Some Depot) × DepotRefused s f.line f.refusal)
