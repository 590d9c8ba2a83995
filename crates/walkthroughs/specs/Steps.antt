-- When a step is accepted, why it is refused, and what it answers. Assumes nothing.
use Rattle.std.specs.Prelude.{◌≡◌, ℕ, zero, suc, ◌+◌, ◌<◌, ◌≤◌, true, false, cond, ◌⊎◌, List, length}
use Rattle.std.specs.Bool.{beq}
use Rattle.sheets.specs.declared.refusals.Refusal.{Refusal}
use Rattle.sheets.specs.declared.refusals.Refusal.TheVariants.{OverLimit, BadLine, BadLetter, FieldCount, NotItsForm, NotListed, Twice, AlwaysTrue, TableFull, NoGoal, StepSize, UnknownMove, RepeatedMove, NeedFalse, Contradictory, Disturbed, GoalFalse, UnknownNumber, BufferShort, NoMemory}
use Rattle.sheets.specs.Faults.{Lowest}
use Rattle.walkthroughs.specs.Depots.{Depot, State, Listed, need_true}
use Rattle.walkthroughs.specs.Disturbance.{AlikeInEveryOrder, SetDisturbs, move_at}
use Rattle.walkthroughs.specs.Firing.{clash, contradictory, settings_at, strikes_at}
use Rattle.walkthroughs.specs.Lists.{times}

-- A step, moves that are done together (parallel actions), is accepted where it can be done: it has 1 to 8 moves, all listed
-- and none twice, their needs are true, and they can be done without contradiction and in every order alike.
pub record Accepted (d : Depot) (s : State) (moves : List ℕ) : Type 0 where
  pub some : 0 < length moves
  pub few : length moves ≤ 8
  pub listed : (m : ℕ) → 0 < times m moves → Listed m (length d.moves)
  pub once : (m : ℕ) → times m moves ≤ 1
  pub needs : (m : ℕ) → 0 < times m moves → need_true d s m ≡ true
  pub agreed : contradictory d s moves ≡ false
  pub alike : AlikeInEveryOrder d s moves

-- The move at a place is not listed among so many.
abbrev pub UnknownAt : ℕ → List ℕ → ℕ → Type 0
UnknownAt count moves place = Listed place (length moves) × (Listed (move_at moves place) count → ⊥)

-- The move at a place stands at a place before it too.
abbrev pub RepeatedAt : List ℕ → ℕ → Type 0
RepeatedAt moves place = Listed place (length moves) × ((before : ℕ) × Listed before (length moves) × (before < place) × (move_at moves before ≡ move_at moves place))

-- The need of the move at a place is false.
abbrev pub FalseAt : Depot → State → List ℕ → ℕ → Type 0
FalseAt d s moves place = Listed place (length moves) × (need_true d s (move_at moves place) ≡ false)

-- What is wrong with a step, by its reason and details; a place is one of the step's.
abbrev pub StepFault : Depot → State → List ℕ → Refusal → Type 0
StepFault d s moves StepSize = (length moves ≡ 0) ⊎ (8 < length moves)
StepFault d s moves (UnknownMove place) = Listed place (length moves) × (Listed (move_at moves place) (length d.moves) → ⊥)
StepFault d s moves (RepeatedMove place) = Listed place (length moves) × ((before : ℕ) × Listed before (length moves) × (before < place) × (move_at moves before ≡ move_at moves place))
StepFault d s moves (NeedFalse place) = Listed place (length moves) × (need_true d s (move_at moves place) ≡ false)
StepFault d s moves (Contradictory setting_place setting_effect strike_place strike_effect) = Listed setting_place (length moves) × Listed strike_place (length moves) × (clash d (settings_at d s (move_at moves setting_place) setting_effect) (strikes_at d s (move_at moves strike_place) strike_effect) ≡ true)
StepFault d s moves (Disturbed set place part) = SetDisturbs d s moves set place part
StepFault d s moves OverLimit = ⊥
StepFault d s moves BadLine = ⊥
StepFault d s moves BadLetter = ⊥
StepFault d s moves FieldCount = ⊥
StepFault d s moves (NotItsForm field) = ⊥
StepFault d s moves (NotListed field) = ⊥
StepFault d s moves (Twice field) = ⊥
StepFault d s moves (AlwaysTrue field) = ⊥
StepFault d s moves TableFull = ⊥
StepFault d s moves NoGoal = ⊥
StepFault d s moves GoalFalse = ⊥
StepFault d s moves UnknownNumber = ⊥
StepFault d s moves BufferShort = ⊥
StepFault d s moves NoMemory = ⊥

-- The refusal of a step: the lowest of its faults, by reason and then by details.
abbrev pub StepRefused : Depot → State → List ℕ → Refusal → Type 0
StepRefused d s moves = Lowest (StepFault d s moves)

-- How many of the facts 1 to k stand in one of two states alone.
unfoldable pub changed : ℕ → State → State → ℕ
changed zero s t = 0
changed (suc k) s t = cond (beq (s (suc k)) (t (suc k))) 0 1 + changed k s t
