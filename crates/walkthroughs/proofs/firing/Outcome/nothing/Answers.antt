use Rattle.walkthroughs.proofs.Marking.{empty-row}
use Rattle.walkthroughs.proofs.firing.Outcome.nothing.Goals as goal

pub returns : goal.returns
returns c = record { adds = empty-row; removes = empty-row }
