use Rattle.std.proofs.Common.{length}
use Rattle.replay.proofs.Reporting.{GoesOn}
use Rattle.replay.proofs.report.report.Given as goal

abbrev pub invariant-loop-trial : goal.invariant-loop-trial
invariant-loop-trial l = GoesOn l.input l.rest l.report.items

abbrev pub decreases-loop-trial : goal.decreases-loop-trial
decreases-loop-trial l = length l.rest
