use Rattle.formulas.proofs.Unique.{spelling_fixes}
use Rattle.formulas.proofs.laws.spelling_fixes_the_formula.Goals as goal

pub returns : goal.returns
returns c = spelling_fixes
