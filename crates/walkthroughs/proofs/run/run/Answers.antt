use Rattle.std.proofs.Common.{arith}
use Rattle.depots.specs.Tables.{tables_of}
use Rattle.walkthroughs.specs.Ruled.{ruled}
use Rattle.walkthroughs.specs.Walkthroughs.{held}
use Rattle.walkthroughs.proofs.Calling.{law}
use Rattle.walkthroughs.proofs.Exchanging.{sent_all, sent_more, sent_none}
use Rattle.walkthroughs.proofs.run.run.Goals as goal

pub loop-i-init : goal.loop-i-init
loop-i-init g c = sent_none (ruled g.K.Kind.carrying (tables_of c.args.depot.now)) c.args.exchanges.now (held c.in_ok-walkthrough.walkthrough) c.in_ok-walkthrough.ensures.1

pub loop-i-preserved : goal.loop-i-preserved
loop-i-preserved g c =
    sent_more (ruled g.K.Kind.carrying (tables_of c.args.depot.now)) c.args.exchanges.now c.loop-i.exchanges c.loop-i.i (held c.loop-i.walkthrough) c.loop-i.invariant _ c.answer.result (held c.answer.new.self) (omega (arith, c.loop-i-test.true, c.loop-i.auto.exchanges)) c.loop-i-test.true c.answer.ensures

pub returns : goal.returns
returns g c =
    let t = tables_of c.args.depot.now in
    (c.in_ok-walkthrough.ensures.0, sent_all (ruled g.K.Kind.carrying t) c.args.exchanges.now (law g.K.Kind.carrying g.met.K.Kind.reflexive g.met.K.Kind.transitive t) c.loop-i.exchanges c.loop-i.i (held c.loop-i.walkthrough) (omega (arith, c.loop-i-test.false, c.loop-i.auto.exchanges)) c.loop-i-test.false c.loop-i.invariant)
