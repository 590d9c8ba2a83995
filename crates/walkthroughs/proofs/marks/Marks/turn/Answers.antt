use Rattle.std.proofs.Common.{refl, arith}
use Rattle.walkthroughs.proofs.Marking.{turned-mark}
use Rattle.walkthroughs.proofs.marks.Marks.turn.Goals as goal

pub returns-then-number-le-MOST_MARKS : goal.returns-then-number-le-MOST_MARKS
returns-then-number-le-MOST_MARKS c = turned-mark c.args.self.now _ c.args.number (λ z. omega arith) (omega arith) (omega arith) refl
