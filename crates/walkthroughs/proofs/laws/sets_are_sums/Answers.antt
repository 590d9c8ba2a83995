use Rattle.walkthroughs.proofs.Subsets.{sets-are_sums}
use Rattle.walkthroughs.proofs.laws.sets_are_sums.Goals as goal

pub returns : goal.returns
returns c = sets-are_sums
