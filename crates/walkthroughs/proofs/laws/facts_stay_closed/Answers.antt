use Rattle.walkthroughs.proofs.Running.{stays_closed}
use Rattle.walkthroughs.proofs.laws.facts_stay_closed.Goals as goal

pub returns : goal.returns
returns c = stays_closed
