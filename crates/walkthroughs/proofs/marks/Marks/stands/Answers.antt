use Rattle.std.proofs.Common.{◌∙◌, arith, rules}
use Rattle.walkthroughs.proofs.Marking.{row-stands}
use Rattle.walkthroughs.proofs.marks.Marks.stands.Goals as goal

pub returns : goal.returns
returns c = let told = c.stands.ensures ∙ row-stands c.args.self.now c.args.number (omega arith) in search rules
