-- The lines of a sheet. Assumes nothing.
use Rattle.std.specs.Prelude.{ℕ, Bool, true, false, List, [], ◌∷◌, Some, None, Option}
use Rattle.std.specs.Option.{option_map}
use Rattle.sheets.specs.Numbered.{entry_at}
use Rattle.sheets.specs.Pieces.{pieces}
use Rattle.sheets.specs.declared.faults.Sheet.{Sheet}
use Rattle.sheets.specs.declared.faults.Sheet.TheVariants.{Depot, Plan}
use Rattle.sheets.specs.declared.lines.Line.{Line as LentLine}

-- A line: its bytes without what ends it, and whether its end is there.
pub record Line : Type 0 where
  pub text : List ℕ
  pub ended : Bool

-- The line that a lent one shows.
abbrev pub shown : LentLine → Line
shown l = record { text = l.text.now; ended = l.ended }

-- The byte that ends a line.
abbrev pub line_end : ℕ
line_end = 10

-- What follows the last end is a line that lacks its own, or where it is nothing, no line.
abbrev pub unfinished : List ℕ → List Line
unfinished [] = []
unfinished (b ∷ bs) = record { text = b ∷ bs; ended = false } ∷ []

-- What stands before an end is a line.
abbrev pub as_lines : List (List ℕ) → List Line
as_lines [] = []
as_lines (p ∷ []) = unfinished p
as_lines (p ∷ q ∷ ps) = record { text = p; ended = true } ∷ as_lines (q ∷ ps)

-- The lines of a sheet.
abbrev pub lines_of : List ℕ → List Line
lines_of s = as_lines (pieces line_end s)

-- The bytes of the line with a number.
abbrev pub line_at : List ℕ → ℕ → Option (List ℕ)
line_at s n = option_map (λ l. l.text) (entry_at (lines_of s) n)

-- The line that a refusal speaks of: of the sheet it names, and none where it names no sheet.
abbrev pub line_on : List ℕ → List ℕ → Option Sheet → ℕ → Option (List ℕ)
line_on depot plan None n = None
line_on depot plan (Some Depot) n = line_at depot n
line_on depot plan (Some Plan) n = line_at plan n
