use Rattle.std.proofs.Common.{length}
use Rattle.batch.specs.Judged.{Judged}
use Rattle.batch.proofs.judged.judge_pairs.Given as goal

abbrev pub invariant-loop-rest : goal.invariant-loop-rest
invariant-loop-rest l = Judged l.input l.initial.printed.items l.rest l.printed.items

abbrev pub decreases-loop-rest : goal.decreases-loop-rest
decreases-loop-rest l = length l.rest
