-- An input cut at its empty lines. Assumes nothing.
use Rattle.std.specs.Prelude.{◌≡◌, ℕ, ◌<◌, Bool, not, ◌==◌, List, length, take, drop}
use Rattle.std.specs.List.{flat_map, prefix_len}
use Rattle.sheets.specs.Laws.{as_written}
use Rattle.sheets.specs.Lines.{Line, lines_of}

-- Whether a line is not empty.
abbrev pub is_filled : Line → Bool
is_filled l = not (length l.text == 0)

-- How many lines stand above the first empty one.
abbrev pub lines_above : List Line → ℕ
lines_above = prefix_len is_filled

-- What stands above the first empty line; all where there is none.
abbrev pub above_empty : List ℕ → List ℕ
above_empty s = flat_map as_written (take (lines_above (lines_of s)) (lines_of s))

-- What stands from the first empty line on; nothing where there is none.
abbrev pub from_empty : List ℕ → List ℕ
from_empty s = flat_map as_written (drop (lines_above (lines_of s)) (lines_of s))

-- What stands below the first empty line; nothing where there is none.
abbrev pub below_empty : List ℕ → List ℕ
below_empty s = drop 1 (from_empty s)

-- The first trial of an input that is not empty: a depot sheet above the first empty line, its calls above the next, and what
-- stands below.
abbrev pub FirstTrial : List ℕ → List ℕ → List ℕ → List ℕ → Type 0
FirstTrial s depot calls below = (0 < length s) × (depot ≡ above_empty s) × (calls ≡ above_empty (below_empty s)) × (below ≡ below_empty (below_empty s))
