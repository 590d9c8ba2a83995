use Rattle.walkthroughs.proofs.Firings.{after-after}
use Rattle.walkthroughs.proofs.laws.groups_of_moves_join.Goals as goal

pub returns : goal.returns
returns c = after-after
