-- A text cut at a mark. Assumes nothing.
use Rattle.std.specs.Prelude.{ℕ, List, [], Some, None, Option, ◌==◌}
use Rattle.std.specs.List.{slice_split}

-- The pieces of a text: what stands before, between and after its marks. A text with no mark is one piece.
abbrev pub pieces : ℕ → List ℕ → List (List ℕ)
pieces mark = slice_split (λ b. b == mark)

-- The pieces of what follows a mark, if anything does.
abbrev pub following : ℕ → Option (List ℕ) → List (List ℕ)
following mark None = []
following mark (Some rest) = pieces mark rest
