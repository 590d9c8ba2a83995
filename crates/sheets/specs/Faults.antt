-- The faults of a line and of a sheet, and which of them is told. Assumes nothing.
use Rattle.std.specs.Prelude.{◌≡◌, ℕ, ◌+◌, ◌<◌, ◌⊎◌, List, [], ◌∷◌, length, take, Some}
use Rattle.std.specs.List.{slice_get}
use Rattle.sheets.specs.declared.refusals.Refusal.{Refusal}
use Rattle.sheets.specs.declared.refusals.Refusal.TheVariants.{OverLimit}
use Rattle.sheets.specs.Lines.{Line, lines_of}
use Rattle.sheets.specs.Refusals.{rank_of}

-- One row of numbers comes no later than another: the lower number decides, the first where they differ.
abbrev pub NoLater : List ℕ → List ℕ → Type 0
NoLater [] ys = Unit {0}
NoLater (x ∷ xs) [] = ⊥
NoLater (x ∷ xs) (y ∷ ys) = (x < y) ⊎ ((x ≡ y) × NoLater xs ys)

-- The one that is told of several things that are wrong: none of them ranks before it.
pub record Lowest (Wrong : Refusal → Type 0) (w : Refusal) : Type 0 where
  pub holds : Wrong w
  pub first : (v : Refusal) → Wrong v → NoLater (rank_of w) (rank_of v)

-- What is wrong with a sheet, by the line at which it is told. A sheet has a limit of bytes, told at line 0; `Wrong`
-- says what is wrong with a line below the lines above it, and `Lacking` what its lines lack in the end.
module _ (limit : ℕ) (Wrong : List Line → Line → Refusal → Type 0) (Lacking : List Line → Refusal → Type 0) where
  pub data SheetFault (s : List ℕ) : ℕ → Refusal → Type 0 where
    over : limit < length s → SheetFault s 0 OverLimit
    line : {w : Refusal} (k : ℕ) (l : Line) → slice_get (lines_of s) k ≡ Some l → Wrong (take k (lines_of s)) l w → SheetFault s (k + 1) w
    end : {w : Refusal} → Lacking (lines_of s) w → SheetFault s (length (lines_of s)) w

  -- The refusal of a sheet: the fault at the lowest line, and there the lowest.
  pub record SheetRefused (s : List ℕ) (n : ℕ) (w : Refusal) : Type 0 where
    pub holds : SheetFault s n w
    pub first : (m : ℕ) (v : Refusal) → SheetFault s m v → NoLater (n ∷ rank_of w) (m ∷ rank_of v)

  -- A sheet with no fault.
  abbrev pub SheetFaultless : List ℕ → Type 0
  SheetFaultless s = (n : ℕ) (w : Refusal) → SheetFault s n w → ⊥
