-- Lists of moves compared by how often each number is in them, whatever their order. Assumes nothing.
use Rattle.std.specs.Prelude.{◌≡◌, ℕ, ◌+◌, ◌≤◌, cond, List, [], ◌∷◌, ◌==◌}

-- 1 for the same number, and 0 for another.
unfoldable pub one : ℕ → ℕ → ℕ
one x y = cond (x == y) 1 0

-- How often a number is in a list.
abbrev pub times : ℕ → List ℕ → ℕ
times x [] = 0
times x (y ∷ ys) = one x y + times x ys

-- Two lists are orders of the same moves.
abbrev pub SameMoves : List ℕ → List ℕ → Type 0
SameMoves a b = (x : ℕ) → times x a ≡ times x b

-- Every move of the first list is in the second, as often at least.
abbrev pub Within : List ℕ → List ℕ → Type 0
Within a b = (x : ℕ) → times x a ≤ times x b
