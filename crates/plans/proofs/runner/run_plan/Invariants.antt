use Rattle.std.proofs.Common.{map, take}
use Rattle.depots.specs.Tables.{tables_of}
use Rattle.walkthroughs.specs.Firing.{start_of}
use Rattle.walkthroughs.specs.Ruled.{ruled}
use Rattle.walkthroughs.specs.Unpickings.{Passes}
use Rattle.walkthroughs.specs.Walkthroughs.{held}
use Rattle.plans.specs.Plans.{moves_of}
use Rattle.plans.proofs.runner.run_plan.Given as goal

abbrev pub invariant-loop-i : goal.invariant-loop-i
invariant-loop-i g l =
    let d = ruled g.K.Kind.carrying (tables_of l.depot) in
    Passes d (start_of d) (take l.i (map moves_of l.step-items)) (held l.walkthrough).stands
