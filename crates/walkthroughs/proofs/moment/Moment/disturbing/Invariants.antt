use Rattle.std.proofs.Common.{◌≡◌, ℕ, ◌<◌}
use Rattle.walkthroughs.specs.DisturbingSets.{disturbs}
use Rattle.walkthroughs.specs.Moments.{at}
use Rattle.walkthroughs.specs.SetRows.{has}
use Rattle.walkthroughs.proofs.moment.Moment.disturbing.Given as goal

abbrev pub invariant-loop-i : goal.invariant-loop-i
invariant-loop-i g l = (set : ℕ) → set < 256 → has l.sets set ≡ at l.self disturbs l.moves set l.i
