use Rattle.std.proofs.Common.{refl}
use Rattle.walkthroughs.specs.Firing.{after, fired_by}
use Rattle.walkthroughs.specs.Steps.{changed}
use Rattle.walkthroughs.specs.Worked.{Worked}
use Rattle.walkthroughs.proofs.Replies.{worked_runs}
use Rattle.walkthroughs.proofs.worked.worked_lines_come_out.Goals as goal

-- the whole table, settled at once
settled : Worked
unfolding after fired_by changed
settled = refl

pub returns : goal.returns
returns c = record { computed = settled; runs = worked_runs settled }
