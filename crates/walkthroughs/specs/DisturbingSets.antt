-- Whether a set of places disturbs, as an answer. Assumes nothing.
use Rattle.std.specs.Prelude.{ℕ, zero, suc, ◌+◌, Bool, false, cond, not, ◌&&◌, ◌||◌, List, length, slice_index_or}
use Rattle.walkthroughs.specs.Depots.{Depot, State, move_of, reads}
use Rattle.walkthroughs.specs.Firing.{after}
use Rattle.walkthroughs.specs.Sets.{chosen, in_set}

-- Some number below one passes a test.
unfoldable pub some_below : ℕ → (ℕ → Bool) → Bool
some_below zero test = false
some_below (suc n) test = some_below n test || test n

-- Some of the first n parts of a move, the need counted as the first, reads otherwise at t than at s.
abbrev pub some_other : Depot → State → State → ℕ → ℕ → Bool
some_other d s t move n = some_below n (λ part. cond (reads d s move part) (not (reads d t move part)) (reads d t move part))

-- Some part of a move reads otherwise at t than at s; parts that it lacks read alike.
abbrev pub some_part_other : Depot → State → State → ℕ → Bool
some_part_other d s t move = some_other d s t move (length (move_of d move).effects + 1)

-- A set disturbs one of the first n moves of a step: that move stands outside the set, and a part of it reads otherwise after
-- the moves of the set.
abbrev pub disturbs : Depot → State → List ℕ → ℕ → ℕ → Bool
disturbs d s moves set n = some_below n (λ i. some_part_other d s (after d s (chosen set moves)) (slice_index_or moves i 0) && not (in_set set (i + 1)))
