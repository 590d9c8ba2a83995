use Rattle.std.proofs.Common.{◌/◌, ◌%◌, ◌∙◌, add-one, ap, rules}
use borrow.Author.Tests.{tests}
use Rattle.walkthroughs.specs.Sets.{in_set}
use Rattle.walkthroughs.proofs.SetRows.{word_told}
use Rattle.walkthroughs.proofs.Spread.{item_at}
use Rattle.walkthroughs.proofs.set_rows.has.Goals as goal

pub returns : goal.returns
returns c =
    word_told c.args.row.now (c.args.set / 64) (c.args.set % 64) c.get.result c.is_some_and.result (item_at c.args.row.now (c.args.set / 64) c.get.result c.get.ensures.lookup) c.is_some_and.ensures (λ x k. search (rules, tests) ∙ ap (in_set x.now) (add-one (c.args.set % 64)))
