use Rattle.walkthroughs.proofs.Judged.{judged}
use Rattle.walkthroughs.proofs.laws.steps_are_judged_by_the_rules.Goals as goal

pub returns : goal.returns
returns c = judged
