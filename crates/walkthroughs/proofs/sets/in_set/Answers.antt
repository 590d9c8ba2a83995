use Rattle.std.proofs.Common.{◌≡◌, suc, ◌-◌, ◌<◌, ◌^◌, ap, ◌∙◌, arith, rules}
use borrow.Author.Tests.{tests}
use Rattle.walkthroughs.specs.Sets.{in_set}
use Rattle.walkthroughs.proofs.Subsets.{digit-read}
use Rattle.walkthroughs.proofs.sets.in_set.Goals as goal

pub returns : goal.returns
returns c =
    let next : suc (c.args.place - 1) ≡ c.args.place = omega (arith, c.requires) in
    let small : c.args.set < 2 ^ 64 = c.ranges.set.fits in
    digit-read c.args.set (c.args.place - 1) c.try_from.result c.is_ok_and.result small c.try_from.ensures c.is_ok_and.ensures (λ b q. search (rules, tests)) ∙ ap (in_set c.args.set) next
