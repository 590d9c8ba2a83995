-- Sets of places by number. The number of a set is the sum of 2^(place − 1) over its places, places counted from 1, so
-- a place is in a set if the binary digit of that weight is 1. Assumes nothing.
use Rattle.std.specs.Prelude.{ℕ, zero, suc, ◌+◌, ◌/◌, ◌%◌, ◌^◌, Bool, false, cond, List, [], ◌∷◌, ◌==◌}

-- The binary digit of weight 2^k is 1.
abbrev pub digit : ℕ → ℕ → Bool
digit n zero = n % 2 == 1
digit n (suc k) = digit (n / 2) k

-- A place is in the set with a number.
abbrev pub in_set : ℕ → ℕ → Bool
in_set n zero = false
in_set n (suc k) = digit n k

-- The moves at the places of a set, in their order.
abbrev pub chosen : ℕ → List ℕ → List ℕ
chosen n [] = []
chosen n (m ∷ moves) = cond (n % 2 == 1) (m ∷ chosen (n / 2) moves) (chosen (n / 2) moves)

-- The sum of 2^(place − 1) over those of the first k places that are in a set.
abbrev pub weight_of : ℕ → ℕ → ℕ
weight_of n zero = 0
weight_of n (suc k) = weight_of n k + cond (in_set n (suc k)) (2 ^ k) 0
