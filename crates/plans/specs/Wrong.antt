-- What is wrong with a line of a plan sheet, under the names of the listed moves. Assumes nothing.
use Rattle.std.specs.Prelude.{◌≡◌, ℕ, ◌<◌, ◌≤◌, false, List, length}
use Rattle.sheets.specs.declared.refusals.Refusal.{Refusal}
use Rattle.sheets.specs.declared.refusals.Refusal.TheVariants.{BadLine, FieldCount, NotItsForm, NotListed, Twice, TableFull}
use Rattle.sheets.specs.Layout.{fields, legible}
use Rattle.sheets.specs.Lines.{Line}
use Rattle.plans.specs.Fields.{NoName, Repeated, Unlisted}

-- The most bytes of a plan sheet.
abbrev pub plan_limit : ℕ
plan_limit = 16384

-- The most steps of a plan, which are its lines.
abbrev pub most_steps : ℕ
most_steps = 64

-- The most moves of a step, which are the fields of its line.
abbrev pub most_moves : ℕ
most_moves = 8

-- What is wrong with a line below so many others, a clause for each reason: it lacks its end, is too long or has a byte that
-- is not allowed; it names more moves than a step may have; a field is no name; a field names no listed move; a field
-- repeats an earlier one; the plan has as many steps as it may.
pub data LineWrong (names : List (List ℕ)) (above : ℕ) (l : Line) : Refusal → Type 0 where
  illegible : legible l ≡ false → LineWrong names above l BadLine
  too_many : most_moves < length (fields l) → LineWrong names above l FieldCount
  no_name : (field : ℕ) → NoName (fields l) field → LineWrong names above l (NotItsForm field)
  unlisted : (field : ℕ) → Unlisted names (fields l) field → LineWrong names above l (NotListed field)
  repeated : (field : ℕ) → Repeated (fields l) field → LineWrong names above l (Twice field)
  full : most_steps ≤ above → LineWrong names above l TableFull
