-- Rows over sets of places. Assumes nothing.
use Rattle.std.specs.Prelude.{ℕ, ◌/◌, ◌%◌, Bool, List, slice_index_or}
use Rattle.walkthroughs.specs.Sets.{digit}

-- A row has the set with a number: the digit of that number, counted on through words of 64 digits, is 1.
abbrev pub has : List ℕ → ℕ → Bool
has row set = digit (slice_index_or row (set / 64) 0) (set % 64)
