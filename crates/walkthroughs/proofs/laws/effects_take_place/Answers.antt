use Rattle.walkthroughs.proofs.Firings.{effects_take_place}
use Rattle.walkthroughs.proofs.laws.effects_take_place.Goals as goal

pub returns : goal.returns
returns c = effects_take_place
