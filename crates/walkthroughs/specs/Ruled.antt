-- A depot that was read, as the rules of a step have it. Assumes nothing.
use Rattle.std.specs.Prelude.{Bool, List, [], ◌∷◌, length}
use Rattle.std.specs.Option.{unwrap_or}
use Rattle.depots.specs.Moves.{own_effects}
use Rattle.depots.specs.Tables.{Effect, Tables}
use Rattle.depots.specs.Tables as tables
use Rattle.walkthroughs.specs.Depots.{Depot, Move}
use Rattle.walkthroughs.specs.Kinds.{carries_among}

-- Moves with their own effects.
abbrev pub with_effects : List tables.Move → List Effect → List Move
with_effects [] effects = []
with_effects (v ∷ moves) effects = record { need = v.need; effects = own_effects v.effects_before moves effects } ∷ with_effects moves effects

-- The depot of some tables, where carrying between facts is their kind's. A goal that there is not has the number 0.
abbrev pub ruled : {F : Type 0} → (F → F → Bool) → Tables F → Depot
ruled carries t = record {
  facts = length t.facts;
  started = t.started;
  carries = carries_among carries t.facts;
  moves = with_effects t.moves t.effects;
  formulas = t.formulas;
  goal = unwrap_or t.goal 0;
}
