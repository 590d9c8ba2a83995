use Rattle.std.proofs.Common.{◌≡◌, ◌∙◌, ap, subst, sym, rules, arith}
use Rattle.std.specs.Option.{option_map, unwrap_or}
use Rattle.depots.specs.Tables.{effect_of, tables_of}
use Rattle.walkthroughs.specs.Depots.{part_of}
use Rattle.walkthroughs.specs.Moments.{depot_of}
use Rattle.walkthroughs.proofs.Ruling.{condition_read, need_is, part_is}
use Rattle.walkthroughs.proofs.Spread.{item_at}
use Rattle.walkthroughs.proofs.moment.Moment.part_of.Goals as goal

pub returns-in-None : goal.returns-in-None
returns-in-None g c =
    let zero : c.args.part ≡ 0 = omega (arith, c.in-None.ensures) in
    subst (λ e. unwrap_or c.need_of.result 0 ≡ part_of (depot_of c.args.self.now) c.args.number e) (sym zero) (ap (λ o. unwrap_or o 0) c.need_of.ensures ∙ need_is g.K.Kind.carrying (tables_of c.args.self.now.depot.now) c.args.number)

pub returns-in-Some : goal.returns-in-Some
returns-in-Some g c =
    let condition : c.map.result ≡ option_map (λ x. (effect_of x.now).condition) c.get.result = search rules in
    ap (λ o. unwrap_or o 0) condition ∙ condition_read c.get.result
    ∙ part_is g.K.Kind.carrying (tables_of c.args.self.now.depot.now) c.args.number c.effects_of.result.now c.effects_of.ensures c.args.part c.in-Some.before _ (omega (arith, c.in-Some.ensures)) (item_at c.effects_of.result.now c.in-Some.before c.get.result c.get.ensures.lookup)
