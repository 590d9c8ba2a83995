use Rattle.std.proofs.Common.{◌<◌, ◌^◌, length, eqb, ◌∙◌, ap, rules, arith}
use Rattle.std.proofs.lemmas.Bool.Decides.{nat_tests}
use Rattle.std.proofs.lemmas.Iterator.{YieldsList-from_take}
use Rattle.std.proofs.lemmas.Iterator.Consumers.{count_from_yields_List}
use Rattle.std.proofs.lemmas.Iterator.Splits.{YieldsList-from_slice_split}
use Rattle.std.proofs.lemmas.List.{length-take}
use Rattle.std.proofs.lemmas.List.Splits.{length-slice_split}
use Rattle.std.proofs.lemmas.List.Sums.{count_by-le-length}
use borrow.Author.Tests.{tests}
use Rattle.sheets.specs.Pieces.{pieces}
use Rattle.sheets.proofs.pieces.has_pieces.Goals as goal

pub returns-then-n-ne0 : goal.returns-then-n-ne0
returns-then-n-ne0 c =
    let short : length c.args.text.now < 2 ^ 63 = search rules in
    let taken = count_from_yields_List c.take.result _ c.count.ensures.ran (YieldsList-from_take _ (YieldsList-from_slice_split _ (λ b. eqb b c.args.mark) c.args.text.now (cc) (cc) (ap (λ s. s.pred) c.take.ensures.source ∙ c.split.ensures.closure) (λ x b q k. search (rules, tests))) c.take.ensures.count) ∙ length-take _ (pieces c.args.mark c.args.text.now) in
    let many = length-slice_split (λ b. eqb b c.args.mark) c.args.text.now in
    let few = count_by-le-length (λ b. eqb b c.args.mark) c.args.text.now in
    grind (arith, nat_tests)

pub returns-else-n-ne0 : goal.returns-else-n-ne0
returns-else-n-ne0 c = let many = length-slice_split (λ b. eqb b c.args.mark) c.args.text.now in grind (arith, nat_tests)
