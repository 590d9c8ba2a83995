-- How the lines of a plan sheet spell its steps, under the names of the listed moves. Assumes nothing.
use Rattle.std.specs.Prelude.{◌≡◌, ℕ, ◌⊎◌, List, [], ◌∷◌, ◌++◌, map, length, Some, None, Result, MatchResult}
use Rattle.sheets.specs.declared.faults.Fault.{Fault}
use Rattle.sheets.specs.declared.faults.Sheet.TheVariants.{Plan}
use Rattle.sheets.specs.declared.refusals.Refusal.{Refusal}
use Rattle.sheets.specs.declared.refusals.Refusal.TheVariants.{NoMemory}
use Rattle.sheets.specs.Faults.{Lowest, SheetRefused, SheetFaultless}
use Rattle.sheets.specs.Layout.{fields}
use Rattle.sheets.specs.Lines.{Line, lines_of}
use Rattle.depots.specs.Moves.{move_named}
use Rattle.plans.specs.declared.plan.Step.{Step}
use Rattle.plans.specs.Plans.{moves_of}
use Rattle.plans.specs.Wrong.{LineWrong, plan_limit}

-- What a plan sheet lacks in the end: nothing, since its last line is as any other and it may have none.
abbrev pub LacksNothing : List Line → Refusal → Type 0
LacksNothing ls w = ⊥

module _ (names : List (List ℕ)) where
  -- Fields name moves, in their order: each is told by the number of the first listed move that has the name.
  abbrev pub NameMoves : List (List ℕ) → List ℕ → Type 0
  NameMoves fs moves = map (move_named names) fs ≡ map Some moves

  -- Lines spell steps, each line the step whose moves its fields name.
  abbrev pub Spelled : List Line → List (List ℕ) → Type 0
  Spelled [] [] = Unit {0}
  Spelled [] (moves ∷ steps) = ⊥
  Spelled (l ∷ ls) [] = ⊥
  Spelled (l ∷ ls) (moves ∷ steps) = NameMoves (fields l) moves × Spelled ls steps

  -- A line is read below so many others: where nothing is wrong with it, it names the moves of the step that is read; else
  -- the lowest is told.
  abbrev pub StepRead : ℕ → Line → Result Step Refusal → Type 0
  StepRead above l r = MatchResult r (λ step. ((w : Refusal) → LineWrong names above l w → ⊥) × NameMoves (fields l) (moves_of step)) (λ w. Lowest (LineWrong names above l) w)

  -- A line is read below those that spell steps, and they then are with its own the new steps. Memory can be wanting.
  abbrev pub StepAdded : List (List ℕ) → Line → Result Unit Refusal → List (List ℕ) → Type 0
  StepAdded steps l r new = MatchResult r (λ _. ((w : Refusal) → LineWrong names (length steps) l w → ⊥) × ((moves : List ℕ) × NameMoves (fields l) moves × (new ≡ steps ++ moves ∷ []))) (λ w. (w ≡ NoMemory) ⊎ Lowest (LineWrong names (length steps) l) w)

  -- What is wrong with a line below others.
  abbrev pub Wrong : List Line → Line → Refusal → Type 0
  Wrong above = LineWrong names (length above)

  -- The refusal of a plan sheet.
  abbrev pub PlanRefused : List ℕ → ℕ → Refusal → Type 0
  PlanRefused = SheetRefused plan_limit Wrong LacksNothing

  -- A plan sheet with no fault, whose lines spell steps.
  pub record PlanRead (s : List ℕ) (steps : List (List ℕ)) : Type 0 where
    pub faultless : SheetFaultless plan_limit Wrong LacksNothing s
    pub spelled : Spelled (lines_of s) steps

  -- What is told of a plan sheet that is not read: its refusal or, with no sheet and line, that memory was wanting.
  abbrev pub PlanTold : List ℕ → Fault → Type 0
  PlanTold s f = ((f.sheet ≡ None) × (f.line ≡ 0) × (f.refusal ≡ NoMemory)) ⊎ ((f.sheet ≡ Some Plan) × PlanRefused s f.line f.refusal)
