-- What is listed, and the place where it stands first. Assumes nothing.
use Rattle.std.specs.Prelude.{ℕ, ◌+◌, Bool, cond, List, [], ◌∷◌, Some, None, Option}
use Rattle.std.specs.Str.{bytes_eq}

-- The place of the first element that passes a test, where the places count from n.
abbrev pub first_from : {X : Type 0} → (X → Bool) → ℕ → List X → Option ℕ
first_from test n [] = None
first_from test n (x ∷ xs) = cond (test x) (Some n) (first_from test (n + 1) xs)

-- The place of a text among listed texts, counted from 0.
abbrev pub place_of : List ℕ → List (List ℕ) → Option ℕ
place_of text texts = first_from (λ t. bytes_eq t text) 0 texts
