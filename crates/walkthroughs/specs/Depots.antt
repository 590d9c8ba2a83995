-- A depot over numbers: facts, moves and formulas, each counted from 1. Assumes nothing.
use Rattle.std.specs.Prelude.{◌≡◌, ℕ, zero, suc, ◌<◌, ◌≤◌, Bool, true, List, [], ◌∷◌, slice_index_or}
use Rattle.depots.specs.Tables.{Effect}
use Rattle.formulas.specs.Formulas.{Formula, holds}
use Rattle.formulas.specs.Formulas.Formula.{all}
use Rattle.formulas.specs.Formulas.Formulas.{none}

-- A move (an action): its need (precondition), told by its formula number, and its effects, which are as the tables of a
-- sheet have them.
pub record Move : Type 0 where
  pub need : ℕ
  pub effects : List Effect

-- A depot: how many facts (atoms) are listed, which of them are started, which fact carries which (has it as an atomic
-- consequence), the moves, the formulas (needs, conditions and the goal) and the goal's number.
pub record Depot : Type 0 where
  pub facts : ℕ
  pub started : List ℕ
  pub carries : ℕ → ℕ → Bool
  pub moves : List Move
  pub formulas : List (Formula ℕ)
  pub goal : ℕ

-- Which facts stand, by number.
abbrev pub State : Type 0
State = ℕ → Bool

-- A number is listed in a table of k entries: it is one of 1 to k.
abbrev pub Listed : ℕ → ℕ → Type 0
Listed n k = (0 < n) × (n ≤ k)

-- The entry with a number, or something else where the number is not listed.
abbrev pub numbered : {X : Type 0} → List X → ℕ → X → X
numbered entries n other = slice_index_or (other ∷ entries) n other

-- What is asked of carrying: it holds between listed facts alone, each of them carries itself, and what a carried fact
-- carries is carried too.
pub record Carrying (d : Depot) : Type 0 where
  pub listed : (f g : ℕ) → d.carries f g ≡ true → Listed f d.facts × Listed g d.facts
  pub itself : (f : ℕ) → Listed f d.facts → d.carries f f ≡ true
  pub onward : (f g h : ℕ) → d.carries f g ≡ true → d.carries g h ≡ true → d.carries f h ≡ true

-- The move with a number; where none is listed, one that does nothing.
abbrev pub move_of : Depot → ℕ → Move
move_of d m = numbered d.moves m (record { need = 0; effects = [] })

-- The effect of a move with a number; where there is none, one that does nothing.
abbrev pub effect_of : Depot → ℕ → ℕ → Effect
effect_of d m e = numbered (move_of d m).effects e (record { condition = 0; settings = []; strikes = [] })

-- Whether the formula with a number is true; where none is listed, it is.
abbrev pub truth_of : Depot → State → ℕ → Bool
truth_of d s n = holds s (numbered d.formulas n (all none))

-- The formula number of a part of a move: part 0 is the need, and part e the condition of effect e.
abbrev pub part_of : Depot → ℕ → ℕ → ℕ
part_of d m zero = (move_of d m).need
part_of d m (suc e) = (effect_of d m (suc e)).condition

-- How a part of a move reads at a state.
abbrev pub reads : Depot → State → ℕ → ℕ → Bool
reads d s m e = truth_of d s (part_of d m e)

-- Whether the need of a move is true at a state.
abbrev pub need_true : Depot → State → ℕ → Bool
need_true d s m = reads d s m 0
