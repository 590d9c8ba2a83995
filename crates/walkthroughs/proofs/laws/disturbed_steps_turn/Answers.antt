use Rattle.walkthroughs.proofs.Running.{turned_by}
use Rattle.walkthroughs.proofs.laws.disturbed_steps_turn.Goals as goal

pub returns : goal.returns
returns c = turned_by
