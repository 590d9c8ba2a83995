use Rattle.walkthroughs.proofs.Unpicks.{unpickings_pass}
use Rattle.walkthroughs.proofs.laws.unpickings_pass.Goals as goal

pub returns : goal.returns
returns c = unpickings_pass
