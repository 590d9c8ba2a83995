use Rattle.std.proofs.Common.{◌+◌, ◌∙◌, rules}
use borrow.Author.Tests.{tests}
use Rattle.formulas.specs.Truth.{stands_in}
use Rattle.walkthroughs.specs.Moments.{depot_of, state_of}
use Rattle.walkthroughs.specs.Searching.{DisturbsAt, LowestBy, row_of}
use Rattle.walkthroughs.proofs.Afterwards.{after-chosen}
use Rattle.walkthroughs.proofs.Mapped.{first_in_slice}
use Rattle.walkthroughs.proofs.SetSearch.{by_set, outside_first}
use Rattle.walkthroughs.proofs.moment.Moment.disturbed_by.Goals as goal

pub returns : goal.returns
returns g c =
    let d = depot_of c.args.self.now in
    let s = state_of c.args.self.now in
    let t = stands_in c.after_set-after.result in
    let left = c.after_set-after.ensures in
    let after = left.2 ∙ after-chosen d c.args.self.now.row.now c.args.moves.now c.args.outcomes.now c.args.set left.0 c.requires left.1 in
    by_set d s _ _ c.args.moves.now c.args.set c.find_map.result after (outside_first d s t c.args.moves.now c.args.set c.find_map.result
    (first_in_slice 0 _ _ (λ a r f' k. search rules) (λ i m o. LowestBy row_of (DisturbsAt d s t c.args.set (i + 1) m) o) (λ i m o k. search (rules, tests)) c.args.moves.now _ _ c.find_map.result c.iter.ensures.rest c.iter.ensures.runs c.enumerate.ensures.runs c.find_map.ensures.runs))
