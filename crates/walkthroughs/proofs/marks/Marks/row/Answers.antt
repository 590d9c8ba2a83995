use Rattle.std.proofs.Common.{arith}
use mathlib.Core.Path.{fun_ext}
use Rattle.walkthroughs.proofs.Marking.{row-stands}
use Rattle.walkthroughs.proofs.marks.Marks.row.Goals as goal

pub returns : goal.returns
returns c = fun_ext (λ n. row-stands c.args.self.now n (omega arith))
