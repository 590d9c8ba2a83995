-- What is told of a refusal, and which of two comes first. Assumes nothing.
use Rattle.std.specs.Prelude.{ℕ, List, [], ◌∷◌, None}
use Rattle.sheets.specs.declared.faults.Fault.{Fault}
use Rattle.sheets.specs.declared.refusals.Refusal.{Refusal}
use Rattle.sheets.specs.declared.refusals.Refusal.TheVariants.{OverLimit, BadLine, BadLetter, FieldCount, NotItsForm, NotListed, Twice, AlwaysTrue, TableFull, NoGoal, StepSize, UnknownMove, RepeatedMove, NeedFalse, Contradictory, Disturbed, GoalFalse, UnknownNumber, BufferShort, NoMemory}

-- The number of each reason: a row for each, since no rule gives one from another.
abbrev pub number_of : Refusal → ℕ
number_of OverLimit = 1
number_of BadLine = 2
number_of BadLetter = 3
number_of FieldCount = 4
number_of (NotItsForm field) = 5
number_of (NotListed field) = 6
number_of (Twice field) = 7
number_of (AlwaysTrue field) = 8
number_of TableFull = 9
number_of NoGoal = 10
number_of StepSize = 11
number_of (UnknownMove place) = 12
number_of (RepeatedMove place) = 13
number_of (NeedFalse place) = 14
number_of (Contradictory setting_place setting_effect strike_place strike_effect) = 15
number_of (Disturbed set place part) = 16
number_of GoalFalse = 17
number_of UnknownNumber = 18
number_of BufferShort = 19
number_of NoMemory = 0

-- No detail is used.
abbrev no_detail : List ℕ
no_detail = 0 ∷ 0 ∷ 0 ∷ 0 ∷ []

-- The first detail alone is used.
abbrev one_detail : ℕ → List ℕ
one_detail n = n ∷ 0 ∷ 0 ∷ 0 ∷ []

-- The four details of each reason, 0 where unused.
abbrev pub details_of : Refusal → List ℕ
details_of (NotItsForm field) = one_detail field
details_of (NotListed field) = one_detail field
details_of (Twice field) = one_detail field
details_of (AlwaysTrue field) = one_detail field
details_of (UnknownMove place) = one_detail place
details_of (RepeatedMove place) = one_detail place
details_of (NeedFalse place) = one_detail place
details_of (Contradictory setting_place setting_effect strike_place strike_effect) = setting_place ∷ setting_effect ∷ strike_place ∷ strike_effect ∷ []
details_of (Disturbed set place part) = set ∷ place ∷ part ∷ 0 ∷ []
details_of w = no_detail

-- What decides which of two refusals is told, the lower before the higher: the number, and then the details.
abbrev pub rank_of : Refusal → List ℕ
rank_of w = number_of w ∷ details_of w

-- A refusal that speaks of no sheet, with line 0.
abbrev pub unplaced : Refusal → Fault
unplaced w = record { sheet = None; line = 0; refusal = w }
