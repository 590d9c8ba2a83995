use Rattle.plans.proofs.Ends.{accepted_plans-pass}
use Rattle.plans.proofs.laws.accepted_plans_pass.Goals as goal

pub returns : goal.returns
returns c = accepted_plans-pass
