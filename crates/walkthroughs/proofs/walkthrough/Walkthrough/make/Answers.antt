use Rattle.std.proofs.Common.{length, ◌∙◌, sym, ap}
use Rattle.depots.specs.Tables.{tables_of}
use Rattle.walkthroughs.proofs.Calling.{at_start}
use Rattle.walkthroughs.proofs.walkthrough.Walkthrough.make.Goals as goal

pub returns : goal.returns
returns g c =
    (sym c.is_empty.ensures ∙ c.if-is_empty.false, at_start g.K.Kind.carrying g.met.K.Kind.reflexive g.met.K.Kind.transitive (tables_of c.args.depot.now) _ _ _ _ (ap length c.facts.ensures) c.none-marks.ensures c.started.ensures c.turn_to.ensures.after)
