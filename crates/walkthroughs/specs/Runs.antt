-- Calls on a walkthrough, what they answer and what they leave, and the law of whole runs (executions). Assumes nothing.
use Rattle.std.specs.Prelude.{◌≡◌, ℕ, Bool, not, List, [], ◌∷◌, ◌++◌, map, length}
use Rattle.std.specs.List.{AllByRecursion}
use Rattle.sheets.specs.declared.refusals.Refusal.{Refusal}
use Rattle.sheets.specs.declared.refusals.Refusal.TheVariants.{Disturbed, UnknownNumber}
use Rattle.walkthroughs.specs.Depots.{Depot, State, Listed, part_of, truth_of}
use Rattle.walkthroughs.specs.Disturbance.{move_at}
use Rattle.walkthroughs.specs.Firing.{Closed, after, start_of}
use Rattle.walkthroughs.specs.Lists.{SameMoves}
use Rattle.walkthroughs.specs.Sets.{chosen}
use Rattle.walkthroughs.specs.Steps.{Accepted, StepRefused, changed}
use Rattle.walkthroughs.specs.Unpickings.{Unpicking, singles}

-- What a walkthrough holds: which facts stand.
pub record Held : Type 0 where
  pub stands : State

-- A call: a step of move numbers, or the question whether a formula is true or a fact stands, by its number.
pub data Call : Type 0 where
  step : List ℕ → Call
  truth : ℕ → Call
  look : ℕ → Call

-- What a call answers: how many listed facts the step changed, yes or no, or why not.
pub data Answer : Type 0 where
  accepted : ℕ → Answer
  told : Bool → Answer
  refused : Refusal → Answer

-- A question by number tells, or refuses a number that is not listed among k, and leaves all as it was.
abbrev pub Asked : ℕ → ℕ → Bool → Held → Answer → Held → Type 0
Asked k n says h (accepted changes) left = ⊥
Asked k n says h (told b) left = Listed n k × (b ≡ says) × (left.stands ≡ h.stands)
Asked k n says h (refused w) left = (Listed n k → ⊥) × (w ≡ UnknownNumber) × (left.stands ≡ h.stands)

-- A call on a walkthrough that holds h answers a and leaves what `left` holds.
abbrev pub Answered : Depot → Held → Call → Answer → Held → Type 0
Answered d h (step moves) (accepted changes) left = Accepted d h.stands moves × (changes ≡ changed d.facts h.stands (after d h.stands moves)) × (left.stands ≡ after d h.stands moves)
Answered d h (step moves) (told b) left = ⊥
Answered d h (step moves) (refused w) left = StepRefused d h.stands moves w × (left.stands ≡ h.stands)
Answered d h (truth n) a left = Asked (length d.formulas) n (truth_of d h.stands n) h a left
Answered d h (look f) a left = Asked d.facts f (h.stands f) h a left

-- A run (an execution): calls with their answers, each going on from what those before it left.
abbrev pub Ran : Depot → Held → List Call → List Answer → Held → Type 0
Ran d h [] [] left = left.stands ≡ h.stands
Ran d h [] (a ∷ answers) left = ⊥
Ran d h (c ∷ calls) [] left = ⊥
Ran d h (c ∷ calls) (a ∷ answers) left = (next : Held) × Answered d h c a next × Ran d next calls answers left

-- What a walkthrough holds at its start.
abbrev pub begun : Depot → Held
begun d = record { stands = start_of d }

-- The accepted steps of a run, in their order.
abbrev pub accepted_steps : List Call → List Answer → List (List ℕ)
accepted_steps [] answers = []
accepted_steps (c ∷ calls) [] = []
accepted_steps (step moves ∷ calls) (accepted changes ∷ answers) = moves ∷ accepted_steps calls answers
accepted_steps (step moves ∷ calls) (told b ∷ answers) = accepted_steps calls answers
accepted_steps (step moves ∷ calls) (refused w ∷ answers) = accepted_steps calls answers
accepted_steps (truth n ∷ calls) (a ∷ answers) = accepted_steps calls answers
accepted_steps (look f ∷ calls) (a ∷ answers) = accepted_steps calls answers

-- An answer is that of an accepted step.
abbrev pub IsAccepted : Answer → Type 0
IsAccepted (accepted changes) = Unit {0}
IsAccepted (told b) = ⊥
IsAccepted (refused w) = ⊥

-- Steps, sent in turn to a walkthrough that holds h, are all accepted and leave what `left` holds.
pub record AllAccepted (d : Depot) (h : Held) (steps : List (List ℕ)) (left : Held) : Type 0 where
  pub answers : List Answer
  pub ran : Ran d h (map step steps) answers left
  pub each : AllByRecursion IsAccepted answers

-- The moves of a list, sent as steps of one move, are all accepted, and after them truth tells the opposite of what it
-- would have told before them of the formula with a number.
pub record Turned (d : Depot) (h : Held) (moves : List ℕ) (formula : ℕ) : Type 0 where
  pub left : Held
  pub sent : AllAccepted d h (singles moves) left
  pub was : Bool
  pub told_before : Answered d h (truth formula) (told was) h
  pub told_after : Answered d left (truth formula) (told (not was)) left

-- The law of a run from the start, which left what `left` holds.
pub record RunLaw (d : Depot) (calls : List Call) (answers : List Answer) (left : Held) : Type 0 where
  -- No fact that a standing one carries fails to stand.
  pub closed : Closed d left.stands
  -- Every unpicking of the accepted steps, sent from the same start, has each step accepted and ends with the same facts.
  pub unpicked : (steps : List (List ℕ)) → Unpicking (accepted_steps calls answers) steps → AllAccepted d (begun d) steps left
  -- If the last call is a step refused as disturbed, the moves of the named set, sent next as steps of one move in any
  -- order, are accepted, and the named part then reads the other way.
  pub turned : (calls' : List Call) (answers' : List Answer) (moves : List ℕ) (set place part : ℕ) → calls ≡ calls' ++ step moves ∷ [] → answers ≡ answers' ++ refused (Disturbed set place part) ∷ [] → (order : List ℕ) → SameMoves order (chosen set moves) → Turned d left order (part_of d (move_at moves place) part)
