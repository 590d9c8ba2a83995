use Rattle.std.proofs.Common.{◌≡◌, ℕ, ◌<◌}
use Rattle.walkthroughs.specs.DisturbingSets.{some_other}
use Rattle.walkthroughs.specs.Moments.{at}
use Rattle.walkthroughs.specs.Outcomes.{left_of}
use Rattle.walkthroughs.specs.SetRows.{has}
use Rattle.walkthroughs.proofs.moment.Moment.other_after.Given as goal

abbrev pub invariant-loop-part : goal.invariant-loop-part
invariant-loop-part g l = (set : ℕ) → set < 256 → has l.sets set ≡ at l.self some_other (left_of l.self.row.now l.outcomes set) l.number l.part
