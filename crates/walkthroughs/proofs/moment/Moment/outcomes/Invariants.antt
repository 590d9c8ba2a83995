use Rattle.std.proofs.Common.{take}
use Rattle.facts.specs.ShortLists.{entries_of}
use Rattle.walkthroughs.specs.Moments.{at}
use Rattle.walkthroughs.specs.Outcomes.{AreOutcomes}
use Rattle.walkthroughs.proofs.moment.Moment.outcomes.Given as goal

abbrev pub invariant-loop-number : goal.invariant-loop-number
invariant-loop-number g l = at l.self AreOutcomes (take l.number-index l.moves) (entries_of l.outcomes)
