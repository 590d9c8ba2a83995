use Rattle.walkthroughs.specs.Moments.{depot_of, state_of}
use Rattle.walkthroughs.proofs.Fires.{FiredSo}
use Rattle.walkthroughs.proofs.moment.Moment.fire.Given as goal

abbrev pub invariant-loop-effect : goal.invariant-loop-effect
invariant-loop-effect g l = FiredSo (depot_of l.self) (state_of l.self) l.effect-items l.outcome l.effect-index
