use Rattle.walkthroughs.proofs.Replies.{one-run}
use Rattle.walkthroughs.proofs.laws.calls_have_one_run.Goals as goal

pub returns : goal.returns
returns c = one-run
