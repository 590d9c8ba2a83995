use Rattle.sheets.proofs.Splitting.{lines_split}
use Rattle.sheets.proofs.laws.lines_split_the_sheet.Goals as goal

pub returns : goal.returns
returns c = lines_split
