use Rattle.depots.specs.Tables.{tables_of}
use Rattle.walkthroughs.specs.Moments.{depot_of, state_of}
use Rattle.walkthroughs.proofs.Fires.{fired-all, fired-more}
use Rattle.walkthroughs.proofs.Ruling.{lent_are}
use Rattle.walkthroughs.proofs.moment.Moment.fire.Goals as goal

pub loop-effect-preserved : goal.loop-effect-preserved
loop-effect-preserved g c = fired-more (depot_of c.args.self.now) (state_of c.args.self.now) c.effects_of-effect-items.result.now c.loop-effect.outcome c.fire_effect.new.outcome c.loop-effect.effect-index c.effect-item.result c.loop-effect-test.true c.effect-item.is c.loop-effect.invariant c.fire_effect.ensures

pub returns : goal.returns
returns g c =
    fired-all (depot_of c.args.self.now) (state_of c.args.self.now) c.args.number c.effects_of-effect-items.result.now c.loop-effect.outcome c.loop-effect.effect-index c.loop-effect-test.false (lent_are g.K.Kind.carrying (tables_of c.args.self.now.depot.now) c.args.number c.effects_of-effect-items.result.now c.effects_of-effect-items.ensures) c.loop-effect.invariant
