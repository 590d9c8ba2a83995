-- What the steps of a plan come to, sent in turn to a new walkthrough of a depot. Assumes nothing.
use Rattle.std.specs.Prelude.{◌≡◌, ℕ, ◌-◌, true, false, ◌⊎◌, List, [], ◌∷◌, ◌++◌, map, length, take, Some}
use Rattle.sheets.specs.declared.faults.Fault.{Fault}
use Rattle.sheets.specs.declared.faults.Sheet.TheVariants.{Plan}
use Rattle.sheets.specs.declared.refusals.Refusal.{Refusal}
use Rattle.sheets.specs.declared.refusals.Refusal.TheVariants.{GoalFalse}
use Rattle.sheets.specs.Numbered.{entry_at}
use Rattle.walkthroughs.specs.Depots.{Depot, truth_of}
use Rattle.walkthroughs.specs.Runs.{AllAccepted, Held, RunLaw, begun}
use Rattle.walkthroughs.specs.Runs.Answer.{refused}
use Rattle.walkthroughs.specs.Runs.Call.{step}
use Rattle.walkthroughs.specs.Steps.{StepRefused}

-- All steps are accepted and leave what `left` holds. The calls that were made, a step each, keep the law of runs.
pub record Passed (d : Depot) (steps : List (List ℕ)) (left : Held) : Type 0 where
  pub sent : AllAccepted d (begun d) steps left
  pub law : RunLaw d (map step steps) sent.answers left

-- The step on a line is the first that is refused: those above it are accepted, and it is refused at what they left. No later
-- step is sent. The calls that were made, the refused one among them, keep the law of runs.
pub record StoppedAt (d : Depot) (steps : List (List ℕ)) (line : ℕ) (w : Refusal) : Type 0 where
  pub moves : List ℕ
  pub here : entry_at steps line ≡ Some moves
  pub left : Held
  pub sent : AllAccepted d (begun d) (take (line - 1) steps) left
  pub refused_there : StepRefused d left.stands moves w
  pub law : RunLaw d (map step (take line steps)) (sent.answers ++ refused w ∷ []) left

-- A plan is accepted: all its steps are, and after the last the goal is true.
abbrev pub PlanAccepted : Depot → List (List ℕ) → Held → Type 0
PlanAccepted d steps left = Passed d steps left × (truth_of d left.stands d.goal ≡ true)

-- All steps are accepted, but after the last the goal is false.
abbrev pub Missed : Depot → List (List ℕ) → Type 0
Missed d steps = (left : Held) × Passed d steps left × (truth_of d left.stands d.goal ≡ false)

-- What is told of a plan that is not accepted: the first step that is refused with its line, or the goal with how many steps
-- there are.
abbrev pub PlanFault : Depot → List (List ℕ) → Fault → Type 0
PlanFault d steps f = (f.sheet ≡ Some Plan) × (StoppedAt d steps f.line f.refusal ⊎ (Missed d steps × (f.line ≡ length steps) × (f.refusal ≡ GoalFalse)))
