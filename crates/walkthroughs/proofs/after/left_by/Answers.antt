use Rattle.std.proofs.Common.{false, not, ◌&&◌, ◌||◌, get_or, rules, arith}
use borrow.Author.Tests.{tests}
use Rattle.walkthroughs.proofs.Afterwards.{left-row}
use Rattle.walkthroughs.proofs.MadeRows.{made}
use Rattle.walkthroughs.proofs.after.left_by.Goals as goal

pub returns : goal.returns
returns c = left-row c.args.start.now c.from_fn.result c.args.outcome.now (omega arith) (omega arith) (omega arith) (made _ _ false (λ i. get_or c.args.outcome.now.adds i false || (get_or c.args.start.now i false && not (get_or c.args.outcome.now.removes i false))) (λ i b q k. search (rules, tests)) c.from_fn.result 128 c.from_fn.ensures.items)
