use Rattle.depots.specs.Tables.{tables_of}
use Rattle.walkthroughs.specs.Ruled.{ruled}
use Rattle.walkthroughs.specs.Walkthroughs.{held}
use Rattle.walkthroughs.proofs.Exchanging.{Sent}
use Rattle.walkthroughs.proofs.run.run.Given as goal

abbrev pub invariant-loop-i : goal.invariant-loop-i
invariant-loop-i g l = Sent (ruled g.K.Kind.carrying (tables_of l.depot)) l.initial.exchanges l.exchanges l.i (held l.walkthrough)
