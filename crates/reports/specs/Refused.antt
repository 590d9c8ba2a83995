-- The report of a refusal. Assumes nothing.
use Rattle.std.specs.Prelude.{ℕ, Bool, cond, not, ◌||◌, List, [], ◌∷◌, ◌++◌, Some, None, codes, decimal, Option, ◌==◌, slice_index}
use Rattle.sheets.specs.declared.faults.Fault.{Fault}
use Rattle.sheets.specs.declared.faults.Sheet.{Sheet}
use Rattle.sheets.specs.declared.faults.Sheet.TheVariants.{Depot, Plan}
use Rattle.sheets.specs.declared.refusals.Refusal.{Refusal}
use Rattle.sheets.specs.Lines.{line_on}
use Rattle.sheets.specs.Refusals.{number_of, details_of}
use Rattle.reports.specs.Written.{written}

-- The word for a sheet.
abbrev pub word_of : Option Sheet → List ℕ
word_of (Some Depot) = codes "depot"
word_of (Some Plan) = codes "plan"
word_of None = codes "-"

-- The front of the line that tells a refusal, before its details: the number, the word for the sheet and the line.
abbrev pub placed_as : ℕ → List ℕ → ℕ → List ℕ → List ℕ
placed_as number word line more = codes "NO" ++ (9 ∷ (decimal number ++ (9 ∷ (word ++ (9 ∷ (decimal line ++ (9 ∷ more)))))))

-- The four details.
abbrev pub detailed_as : List ℕ → List ℕ
detailed_as details = written (decimal (slice_index details 0) ∷ decimal (slice_index details 1) ∷ decimal (slice_index details 2) ∷ decimal (slice_index details 3) ∷ [])

-- The line that tells a refusal.
abbrev pub refusal_line : Fault → List ℕ
refusal_line f = placed_as (number_of f.refusal) (word_of f.sheet) f.line (detailed_as (details_of f.refusal))

-- Whether the faulty line is shown: not where the sheet as a whole is at fault, nor where the line cannot be shown.
abbrev pub shows_line : Refusal → Bool
shows_line w = not (number_of w == 1 || (number_of w == 2 || (number_of w == 10 || number_of w == 17)))

-- The line that is shown with a refusal, where there is one.
abbrev pub line_for : List ℕ → List ℕ → Fault → Option (List ℕ)
line_for depot plan f = cond (shows_line f.refusal) (line_on depot plan f.sheet f.line) None

-- A faulty line as it is shown.
abbrev pub shown_as : Option (List ℕ) → List ℕ
shown_as None = []
shown_as (Some text) = written (codes "L" ∷ text ∷ [])

-- The report of a refusal.
abbrev pub refusal_report : List ℕ → List ℕ → Fault → List ℕ
refusal_report depot plan f = refusal_line f ++ shown_as (line_for depot plan f)
