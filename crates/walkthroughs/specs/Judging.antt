-- The answers of a walkthrough, computed: for tables of worked lines. That they are those of the rules is shown as a
-- theorem. Assumes nothing.
use Rattle.std.specs.Prelude.{ℕ, zero, suc, ◌^◌, Bool, true, false, cond, not, ◌&&◌, ◌||◌, List, [], ◌∷◌, ◌++◌, length, Some, None, filter, Option, ◌==◌, nat_le, nat_lt}
use Rattle.std.specs.Bool.{beq}
use Rattle.std.specs.List.{flat_map}
use Rattle.sheets.specs.declared.refusals.Refusal.{Refusal}
use Rattle.sheets.specs.declared.refusals.Refusal.TheVariants.{OverLimit, BadLine, BadLetter, FieldCount, NotItsForm, NotListed, Twice, AlwaysTrue, TableFull, NoGoal, StepSize, UnknownMove, RepeatedMove, NeedFalse, Contradictory, Disturbed, GoalFalse, UnknownNumber, BufferShort, NoMemory}
use Rattle.sheets.specs.Refusals.{rank_of}
use Rattle.walkthroughs.specs.Depots.{Depot, State, move_of, need_true, reads, truth_of}
use Rattle.walkthroughs.specs.Disturbance.{move_at}
use Rattle.walkthroughs.specs.Firing.{after, any, clash, settings_at, strikes_at}
use Rattle.walkthroughs.specs.Runs.{Answer, Call}
use Rattle.walkthroughs.specs.Runs.Answer.{accepted, refused, told}
use Rattle.walkthroughs.specs.Runs.Call.{look, step, truth}
use Rattle.walkthroughs.specs.Sets.{chosen, in_set}
use Rattle.walkthroughs.specs.Steps.{changed}

-- A number is one of 1 to k.
abbrev pub is_listed : ℕ → ℕ → Bool
is_listed n k = nat_lt 0 n && nat_le n k

-- The numbers 0 to n.
abbrev pub up_to : ℕ → List ℕ
up_to zero = 0 ∷ []
up_to (suc n) = suc n ∷ up_to n

-- Whether a step has a fault, with a test of its own for the contradiction of settings and strikes, and for the sets
-- that are tried.
abbrev pub has_fault : (List ℕ → List ℕ → Bool) → (ℕ → Bool) → Depot → State → List ℕ → Refusal → Bool
has_fault clashes tried d s moves StepSize = length moves == 0 || nat_lt 8 (length moves)
has_fault clashes tried d s moves (UnknownMove place) = is_listed place (length moves) && not (is_listed (move_at moves place) (length d.moves))
has_fault clashes tried d s moves (RepeatedMove place) = is_listed place (length moves) && any (λ before. is_listed before (length moves) && (nat_lt before place && move_at moves before == move_at moves place)) (up_to (length moves))
has_fault clashes tried d s moves (NeedFalse place) = is_listed place (length moves) && not (need_true d s (move_at moves place))
has_fault clashes tried d s moves (Contradictory setting_place setting_effect strike_place strike_effect) = is_listed setting_place (length moves) && (is_listed strike_place (length moves) && clashes (settings_at d s (move_at moves setting_place) setting_effect) (strikes_at d s (move_at moves strike_place) strike_effect))
has_fault clashes tried d s moves (Disturbed set place part) = tried set && (nat_lt set (2 ^ length moves) && (is_listed place (length moves) && (not (in_set set place) && not (beq (reads d (after d s (chosen set moves)) (move_at moves place) part) (reads d s (move_at moves place) part)))))
has_fault clashes tried d s moves OverLimit = false
has_fault clashes tried d s moves BadLine = false
has_fault clashes tried d s moves BadLetter = false
has_fault clashes tried d s moves FieldCount = false
has_fault clashes tried d s moves (NotItsForm field) = false
has_fault clashes tried d s moves (NotListed field) = false
has_fault clashes tried d s moves (Twice field) = false
has_fault clashes tried d s moves (AlwaysTrue field) = false
has_fault clashes tried d s moves TableFull = false
has_fault clashes tried d s moves NoGoal = false
has_fault clashes tried d s moves GoalFalse = false
has_fault clashes tried d s moves UnknownNumber = false
has_fault clashes tried d s moves BufferShort = false
has_fault clashes tried d s moves NoMemory = false

-- How many effects the moves have together.
abbrev pub effects_in : Depot → List ℕ → ℕ
effects_in d moves = length (flat_map (λ m. (move_of d m).effects) moves)

-- What can be wrong with a step of k moves that have n effects.
abbrev pub possible : ℕ → ℕ → List Refusal
possible k n =
    StepSize ∷ (flat_map (λ p. UnknownMove p ∷ RepeatedMove p ∷ NeedFalse p ∷ flat_map (λ e. flat_map (λ q. flat_map (λ h. Contradictory p e q h ∷ []) (up_to n)) (up_to k)) (up_to n)) (up_to k) ++ flat_map (λ set. flat_map (λ p. flat_map (λ e. Disturbed set p e ∷ []) (up_to n)) (up_to k)) (up_to (2 ^ k)))

-- One row of numbers comes no later than another.
abbrev pub no_later : List ℕ → List ℕ → Bool
no_later [] ys = true
no_later (x ∷ xs) [] = false
no_later (x ∷ xs) (y ∷ ys) = nat_lt x y || (x == y && no_later xs ys)

-- The lower of two refusals, or the one there is.
abbrev pub lower : Refusal → Option Refusal → Option Refusal
lower w None = Some w
lower w (Some v) = Some (cond (no_later (rank_of w) (rank_of v)) w v)

-- The lowest of some refusals.
abbrev pub lowest_of : List Refusal → Option Refusal
lowest_of [] = None
lowest_of (w ∷ ws) = lower w (lowest_of ws)

-- The refusal of a step, if it has one, with tests of its own.
abbrev pub judge_by : (List ℕ → List ℕ → Bool) → (ℕ → Bool) → Depot → State → List ℕ → Option Refusal
judge_by clashes tried d s moves = lowest_of (filter (has_fault clashes tried d s moves) (possible (length moves) (effects_in d moves)))

-- The refusal of a step, if it has one.
abbrev pub judge : Depot → State → List ℕ → Option Refusal
judge d = judge_by (clash d) (λ set. true) d

-- What a judged step answers.
abbrev pub step_answer : Depot → State → List ℕ → Option Refusal → Answer
step_answer d s moves None = accepted (changed d.facts s (after d s moves))
step_answer d s moves (Some w) = refused w

-- What a judged step leaves.
abbrev pub step_leaves : Depot → State → List ℕ → Option Refusal → State
step_leaves d s moves None = after d s moves
step_leaves d s moves (Some w) = s

-- What a call answers.
abbrev pub answer_of : Depot → State → Call → Answer
answer_of d s (step moves) = step_answer d s moves (judge d s moves)
answer_of d s (truth n) = cond (is_listed n (length d.formulas)) (told (truth_of d s n)) (refused UnknownNumber)
answer_of d s (look f) = cond (is_listed f d.facts) (told (s f)) (refused UnknownNumber)

-- What a call leaves.
abbrev pub leaves_of : Depot → State → Call → State
leaves_of d s (step moves) = step_leaves d s moves (judge d s moves)
leaves_of d s (truth n) = s
leaves_of d s (look f) = s

-- What calls answer in turn.
abbrev pub answers_of : Depot → State → List Call → List Answer
answers_of d s [] = []
answers_of d s (c ∷ calls) = answer_of d s c ∷ answers_of d (leaves_of d s c) calls

-- What calls leave in the end.
abbrev pub left_by : Depot → State → List Call → State
left_by d s [] = s
left_by d s (c ∷ calls) = left_by d (leaves_of d s c) calls
