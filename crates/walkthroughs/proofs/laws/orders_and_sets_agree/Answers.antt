use Rattle.walkthroughs.proofs.Disturbing.{orders_and_sets}
use Rattle.walkthroughs.proofs.laws.orders_and_sets_agree.Goals as goal

pub returns : goal.returns
returns c = orders_and_sets
