-- What is read of a line with a move, an effect or the goal. Assumes nothing.
use Rattle.std.specs.Prelude.{◌≡◌, ◌-◌, ◌≤◌, ◌⊎◌, length, Ok}
use Rattle.depots.specs.declared.depot.Effect.{Effect}
use Rattle.depots.specs.declared.formula_field.NewFormula.{NewFormula}
use Rattle.depots.specs.FormulaFields.{with_formula}
use Rattle.depots.specs.Kinds.{Meaning}
use Rattle.depots.specs.Settings.{list_reading, numbers_of}
use Rattle.depots.specs.Spelling.{AddsFormula}
use Rattle.depots.specs.Tables.{Tables}
use Rattle.depots.specs.Wrong.{Fields, before_last, most_effects, most_of_move, number_among}

-- The third field of a move's line read as its need, and the second of the goal's line read as the goal.
abbrev pub NeedRead : {F : Type 0} → Meaning F → Tables F → Fields → NewFormula → Type 0
NeedRead m t f new = AddsFormula m t f.third (with_formula t new)

abbrev pub GoalRead : {F : Type 0} → Meaning F → Tables F → Fields → NewFormula → Type 0
GoalRead m t f new = AddsFormula m t f.second (with_formula t new)

-- The condition, the settings and the strikes that the fields of a line are.
pub record EffectRead {F : Type 0} (m : Meaning F) (t : Tables F) (f : Fields) (new : Effect NewFormula) : Type 0 where
  pub condition : AddsFormula m t f.second (with_formula t new.condition)
  pub settings : list_reading (number_among m t) f.third ≡ Ok (numbers_of new.settings)
  pub strikes : list_reading (number_among m t) f.fourth ≡ Ok (numbers_of new.strikes)

-- There is no room for another effect, be it of the last move or of any.
abbrev pub EffectsFull : {F : Type 0} → Tables F → Type 0
EffectsFull t = (most_effects ≤ length t.effects) ⊎ (most_of_move ≤ length t.effects - before_last t.moves)
