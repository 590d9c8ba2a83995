-- What holds of every sheet. Assumes nothing.
use Rattle.std.specs.Prelude.{◌≡◌, ℕ, ◌<◌, true, cond, List, [], ◌∷◌, ◌++◌, length}
use Rattle.std.specs.List.{flat_map, AllByRecursion}
use Rattle.std.specs.Str.Iter.{LacksByte}
use Rattle.sheets.specs.Lines.{Line, line_end, lines_of}

-- A line as its sheet has it.
abbrev pub as_written : Line → List ℕ
as_written l = l.text ++ cond l.ended (line_end ∷ []) []

-- Every line but the last has its end, and the last has it or has a byte.
abbrev pub EndsInOrder : List Line → Type 0
EndsInOrder [] = Unit {0}
EndsInOrder (l ∷ []) = cond l.ended (Unit {0}) (0 < length l.text)
EndsInOrder (l ∷ m ∷ ls) = (l.ended ≡ true) × EndsInOrder (m ∷ ls)

-- How a sheet is split into lines: written one after the other they are the sheet, none holds the byte that ends a
-- line, and only the last can lack its end.
pub record Split (s : List ℕ) (ls : List Line) : Type 0 where
  pub whole : flat_map as_written ls ≡ s
  pub single : AllByRecursion (λ l. LacksByte line_end l.text) ls
  pub ends : EndsInOrder ls

-- Every sheet is so split.
abbrev pub LinesSplit : Type 0
LinesSplit = (s : List ℕ) → Split s (lines_of s)
