-- What holds of every formula. Assumes nothing.
use Rattle.std.specs.Prelude.{◌≡◌, ℕ, List}
use Rattle.formulas.specs.Formulas.{Formula}
use Rattle.formulas.specs.Spelling.{WellTexted, spelled}

-- Two formulas with one text are the same formula.
abbrev pub SpellingFixes : Type 0
SpellingFixes = (p q : Formula (List ℕ)) → WellTexted p → WellTexted q → spelled p ≡ spelled q → p ≡ q
