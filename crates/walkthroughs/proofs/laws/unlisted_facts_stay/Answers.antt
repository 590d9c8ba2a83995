use Rattle.walkthroughs.proofs.Firings.{unlisted-stay}
use Rattle.walkthroughs.proofs.laws.unlisted_facts_stay.Goals as goal

pub returns : goal.returns
returns c = unlisted-stay
