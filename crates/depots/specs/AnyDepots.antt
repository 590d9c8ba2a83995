-- A depot sheet of either kind. Assumes nothing.
use Rattle.std.specs.Prelude.{◌≡◌, ℕ, Bool, true, false, List, [], ◌∷◌, MatchBool}
use Rattle.sheets.specs.declared.faults.Fault.{Fault}
use Rattle.sheets.specs.Layout.{says_sight}
use Rattle.sheets.specs.Lines.{Line, lines_of}
use Rattle.depots.specs.declared.any_depot.AnyDepot.{AnyDepot}
use Rattle.depots.specs.declared.any_depot.AnyDepot.TheVariants.{Plain, Sight}
use Rattle.depots.specs.Kinds.{plain_meaning, sight_meaning}
use Rattle.depots.specs.Spelling.{DepotRead, DepotTold}
use Rattle.depots.specs.Tables.{tables_of}

-- The first of some lines names the sight kind.
abbrev pub first_says_sight : List Line → Bool
first_says_sight [] = false
first_says_sight (l ∷ ls) = says_sight l

-- A sheet is of the sight kind if its line 1 says so. Every other is read as one of the plain kind, which refuses any other
-- word.
abbrev pub names_sight : List ℕ → Bool
names_sight s = first_says_sight (lines_of s)

-- A sheet is read as a depot of its kind.
abbrev pub AnyRead : List ℕ → AnyDepot → Type 0
AnyRead s (Plain d) = (names_sight s ≡ false) × DepotRead plain_meaning s (tables_of d)
AnyRead s (Sight d) = (names_sight s ≡ true) × DepotRead sight_meaning s (tables_of d)

-- What is told of a sheet that is not read.
abbrev pub AnyTold : List ℕ → Fault → Type 0
AnyTold s f = MatchBool (names_sight s) (DepotTold sight_meaning s f) (DepotTold plain_meaning s f)
