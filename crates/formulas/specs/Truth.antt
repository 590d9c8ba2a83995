-- Which facts stand, by a row of marks. Assumes nothing.
use Rattle.std.specs.Prelude.{ℕ, ◌-◌, Bool, false, not, ◌&&◌, List, ◌==◌, slice_index_or}

-- The fact of a number, counted from 1, stands if its mark is set. A number with no mark does not stand.
abbrev pub stands_in : List Bool → ℕ → Bool
stands_in row n = not (n == 0) && slice_index_or row (n - 1) false
