use Rattle.walkthroughs.proofs.SetRows.{has-all}
use Rattle.walkthroughs.proofs.set_rows.every_set.Goals as goal

pub returns : goal.returns
returns c = has-all
