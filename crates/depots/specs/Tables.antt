-- The tables that the lines of a depot sheet fill. Assumes nothing.
use Rattle.std.specs.Prelude.{ℕ, List, [], map, take, Some, None, vec_items, vec_len, Option}
use Rattle.facts.specs.declared.kinds.Kind.{Ghosts}
use Rattle.facts.specs.Texts.{Listing, listing_of}
use Rattle.formulas.specs.Formulas.{Formula}
use Rattle.formulas.specs.Shapes.{numbers}
use Rattle.depots.specs.declared.depot.Depot.{Depot}
use Rattle.depots.specs.declared.depot.Effect.{Effect as KeptEffect}
use Rattle.depots.specs.declared.depot.NamedMove.{NamedMove}
use Rattle.depots.specs.Settings.{numbers_of}

-- An effect (a conditional effect): its condition, told by its formula number, and the facts that it sets (added atoms) and
-- strikes (deleted atoms).
pub record Effect : Type 0 where
  pub condition : ℕ
  pub settings : List ℕ
  pub strikes : List ℕ

-- A move (an action): its need (precondition), told by its formula number, and how many effects stand before its own. Its
-- effects go on to those of the next move.
pub record Move : Type 0 where
  pub need : ℕ
  pub effects_before : ℕ

-- The tables: zones (agents) and matters (propositions) by their texts, the listed facts (atoms) with their texts, the
-- numbers of the started facts, the names of the moves, the moves, their effects, the formulas (needs, conditions and the
-- goal) with how large they are together, and the number of the goal's formula, while there is one.
pub record Tables (F : Type 0) : Type 0 where
  pub zones : List (List ℕ)
  pub matters : List (List ℕ)
  pub facts : List F
  pub texts : List (List ℕ)
  pub started : List ℕ
  pub names : List (List ℕ)
  pub moves : List Move
  pub effects : List Effect
  pub formulas : List (Formula ℕ)
  pub size : ℕ
  pub goal : Option ℕ

-- Tables with nothing in them: those of an empty depot.
abbrev pub no_tables : {F : Type 0} → Tables F
no_tables = record { zones = []; matters = []; facts = []; texts = []; started = []; names = []; moves = []; effects = []; formulas = []; size = 0; goal = None }

module _ {F : Type 0} (t : Tables F) where
  -- The zones and matters, under which texts are read.
  abbrev pub listing : Listing
  listing = record { zones = t.zones; matters = t.matters }

  -- The same tables but for one or two.
  abbrev pub with_zones : List (List ℕ) → Tables F
  with_zones new = record t { zones = new }

  abbrev pub with_matters : List (List ℕ) → Tables F
  with_matters new = record t { matters = new }

  abbrev pub with_facts : List F → List (List ℕ) → Tables F
  with_facts new spelled = record t { facts = new; texts = spelled }

  abbrev pub with_started : List ℕ → Tables F
  with_started new = record t { started = new }

  abbrev pub with_moves : List (List ℕ) → List Move → Tables F
  with_moves named new = record t { names = named; moves = new }

  abbrev pub with_effects : List Effect → Tables F
  with_effects new = record t { effects = new }

  abbrev pub with_formulas : List (Formula ℕ) → ℕ → Tables F
  with_formulas new large = record t { formulas = new; size = large }

  abbrev pub with_goal : ℕ → Tables F
  with_goal new = record t { goal = Some new }

-- An effect as a depot keeps it.
abbrev pub effect_of : KeptEffect ℕ → Effect
effect_of e = record { condition = e.condition; settings = numbers_of e.settings; strikes = numbers_of e.strikes }

-- A move as a depot keeps it, beside its name.
abbrev pub move_of : NamedMove → Move
move_of m = record { need = m.numbers.need; effects_before = m.numbers.effects_before }

-- How many places of its table of effects a depot has filled.
abbrev pub kept_effects : {K F : Type 0} {kind : Ghosts K F} → Depot K F kind → ℕ
kept_effects d = d.effect_count

-- How many effects the table of a depot has places for.
abbrev pub room_of : {K F : Type 0} {kind : Ghosts K F} → Depot K F kind → ℕ
room_of d = vec_len d.effects

-- The tables of a depot.
abbrev pub tables_of : {K F : Type 0} {kind : Ghosts K F} → Depot K F kind → Tables F
tables_of d = record {
  zones = (listing_of d.names).zones;
  matters = (listing_of d.names).matters;
  facts = vec_items d.facts;
  texts = vec_items d.texts;
  started = vec_items d.started;
  names = map (λ m. m.name) (vec_items d.moves);
  moves = map move_of (vec_items d.moves);
  effects = map effect_of (take d.effect_count (vec_items d.effects));
  formulas = map numbers (vec_items d.formulas);
  size = d.formula_size;
  goal = d.goal;
}
