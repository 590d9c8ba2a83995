use Rattle.std.proofs.Common.{refl}
use Rattle.walkthroughs.specs.Firing.{after, fired_by}
use Rattle.walkthroughs.specs.Steps.{changed}
use Rattle.walkthroughs.proofs.worked.names_mislead.Goals as goal

pub returns : goal.returns
unfolding after fired_by changed
returns c = (refl, refl)
