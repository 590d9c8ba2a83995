-- How a line of a report is written. Assumes nothing.
use Rattle.std.specs.Prelude.{ℕ, List, [], ◌∷◌, ◌++◌}

-- The fields, parted by tabs and ended by byte 10.
abbrev pub written : List (List ℕ) → List ℕ
written [] = 10 ∷ []
written (f ∷ []) = f ++ (10 ∷ [])
written (f ∷ g ∷ fs) = f ++ (9 ∷ written (g ∷ fs))
