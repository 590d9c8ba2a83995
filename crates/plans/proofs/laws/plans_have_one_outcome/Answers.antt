use Rattle.plans.proofs.Ends.{one_outcome}
use Rattle.plans.proofs.laws.plans_have_one_outcome.Goals as goal

pub returns : goal.returns
returns c = one_outcome
