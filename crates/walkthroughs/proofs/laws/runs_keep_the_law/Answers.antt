use Rattle.walkthroughs.proofs.Running.{runs-keep_the_law}
use Rattle.walkthroughs.proofs.laws.runs_keep_the_law.Goals as goal

pub returns : goal.returns
returns c = runs-keep_the_law
