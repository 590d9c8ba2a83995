use Rattle.std.proofs.Common.{rules}
use borrow.Author.Tests.{tests}
use Rattle.depots.specs.Tables.{tables_of}
use Rattle.std.specs.Option.{option_map}
use Rattle.walkthroughs.specs.Moments.{depot_of}
use Rattle.walkthroughs.specs.Searching.{LowestBy, row_of_effect, seen}
use Rattle.walkthroughs.proofs.Contradicting.{At, blank, first_in_move, given}
use Rattle.walkthroughs.proofs.Mapped.{first_in_slice}
use Rattle.walkthroughs.proofs.Ruling.{lent_are}
use Rattle.walkthroughs.proofs.moment.Moment.effect_in.Goals as goal

pub returns : goal.returns
returns g c = λ passes tells.
    let d = depot_of c.args.self.now in
    let lent = c.effects_of.result.now in
    first_in_move d passes c.args.place c.args.number lent (lent_are g.K.Kind.carrying (tables_of c.args.self.now.depot.now) c.args.number lent c.effects_of.ensures) c.find_map.result
    (first_in_slice blank _ _ (λ a r f' k. search rules) (λ i e o. LowestBy row_of_effect (At d passes c.args.place c.args.number i e) (option_map seen o)) (λ i e o k. given d passes c.args.place c.args.number i e.now (option_map seen o) (search (rules, tests, tells))) lent _ _ c.find_map.result c.iter.ensures.rest c.iter.ensures.runs c.enumerate.ensures.runs c.find_map.ensures.runs)
