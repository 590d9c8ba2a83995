use Rattle.std.proofs.Common.{refl}
use Rattle.walkthroughs.proofs.Marking.{none-stand}
use Rattle.walkthroughs.proofs.marks.Marks.none.Goals as goal

pub returns : goal.returns
returns c = none-stand _ refl
