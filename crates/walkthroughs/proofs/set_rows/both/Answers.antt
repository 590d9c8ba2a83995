use Rattle.std.proofs.Common.{get_or, rules, bit_and}
use borrow.Author.Tests.{tests}
use Rattle.walkthroughs.proofs.MadeRows.{made}
use Rattle.walkthroughs.proofs.SetRows.{has-both}
use Rattle.walkthroughs.proofs.set_rows.both.Goals as goal

pub returns : goal.returns
returns c = has-both c.args.row.now c.args.more.now c.from_fn.result (made _ _ 0 (λ i. bit_and (get_or c.args.row.now i 0) (get_or c.args.more.now i 0)) (λ i b q k. search (rules, tests)) c.from_fn.result 4 c.from_fn.ensures.items)
