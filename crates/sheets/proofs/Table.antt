-- The table of letters says what the words say. Assumes nothing.
use Rattle.std.proofs.Common.{Bool, Decides, Option, rules}
use Rattle.sheets.specs.declared.letters.Letter.{Letter}
use Rattle.sheets.specs.Letters.{may_come, MayCome}

pub table-agrees : (above : Option Letter) (sight : Bool) (l : Letter) → Decides (may_come above sight l) (MayCome above sight l)
table-agrees above sight l = search rules
