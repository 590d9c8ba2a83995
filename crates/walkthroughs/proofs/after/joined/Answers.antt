use Rattle.std.proofs.Common.{false, ◌||◌, get_or, rules, arith}
use borrow.Author.Tests.{tests}
use Rattle.walkthroughs.proofs.Afterwards.{joined-rows}
use Rattle.walkthroughs.proofs.MadeRows.{made}
use Rattle.walkthroughs.proofs.after.joined.Goals as goal

pub returns : goal.returns
returns c = joined-rows c.args.row.now c.args.more.now c.from_fn.result (omega arith) (omega arith) (omega arith) (made _ _ false (λ i. get_or c.args.row.now i false || get_or c.args.more.now i false) (λ i b q k. search (rules, tests)) c.from_fn.result 128 c.from_fn.ensures.items)
