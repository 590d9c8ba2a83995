use Rattle.walkthroughs.proofs.Faulty.{one-refusal}
use Rattle.walkthroughs.proofs.laws.steps_have_one_refusal.Goals as goal

pub returns : goal.returns
returns c = one-refusal
