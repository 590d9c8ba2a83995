use mathlib.Core.Path.{fun_ext}
use Rattle.walkthroughs.proofs.Marking.{empty-row}
use Rattle.walkthroughs.proofs.marks.unmarked.Goals as goal

pub returns : goal.returns
returns c = fun_ext empty-row
