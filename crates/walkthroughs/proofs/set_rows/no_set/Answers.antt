use Rattle.walkthroughs.proofs.SetRows.{has-none}
use Rattle.walkthroughs.proofs.set_rows.no_set.Goals as goal

pub returns : goal.returns
returns c = has-none
