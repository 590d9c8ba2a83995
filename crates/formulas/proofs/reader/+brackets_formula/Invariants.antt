use Rattle.std.proofs.Common.{◌+◌, ◌*◌, length}
use Rattle.formulas.proofs.InBrackets.{Kept}
use Rattle.formulas.proofs.reader.+brackets_formula.Given as goal

abbrev pub decreases-brackets : goal.decreases-brackets
decreases-brackets l = 2 * l.depth + 1

abbrev pub decreases-formula : goal.decreases-formula
decreases-formula l = 2 * l.depth

abbrev pub invariant-brackets-loop-all : goal.invariant-brackets-loop-all
invariant-brackets-loop-all l = Kept l.depth l.text l.kept l.all.items l.left

abbrev pub decreases-brackets-loop-all : goal.decreases-brackets-loop-all
decreases-brackets-loop-all l = length l.left
