use Rattle.std.proofs.Common.{get_or, rules, w64}
use Rattle.std.specs.Int.{bit_not}
use borrow.Author.Tests.{tests}
use Rattle.walkthroughs.proofs.MadeRows.{made}
use Rattle.walkthroughs.proofs.SetRows.{has-other}
use Rattle.walkthroughs.proofs.set_rows.others.Goals as goal

pub returns : goal.returns
returns c = has-other c.args.row.now c.from_fn.result c.fits-row (made _ _ 0 (λ i. bit_not w64 (get_or c.args.row.now i 0)) (λ i b q k. search (rules, tests)) c.from_fn.result 4 c.from_fn.ensures.items)
