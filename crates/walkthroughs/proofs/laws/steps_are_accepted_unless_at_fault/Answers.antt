use Rattle.walkthroughs.proofs.Faulty.{accepted_unless_fault}
use Rattle.walkthroughs.proofs.laws.steps_are_accepted_unless_at_fault.Goals as goal

pub returns : goal.returns
returns c = accepted_unless_fault
