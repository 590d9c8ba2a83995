use Rattle.std.proofs.Common.{◌<◌, length, arith, true-eqb, false-eqb, refl}
use Rattle.sheets.proofs.Rows.{no_lines, line-cut}
use Rattle.sheets.proofs.lines.first_line.Goals as goal

pub returns-then-is_empty : goal.returns-then-is_empty
returns-then-is_empty c = no_lines c.args.sheet.now (true-eqb _ 0 c.if-is_empty.ensures)

pub returns : goal.returns
returns c =
    let some : 0 < length c.args.sheet.now = omega (arith, false-eqb (length c.args.sheet.now) 0 c.if-is_empty.ensures) in
    rw (c.is_some.ensures) (rw (c.unwrap_or.ensures) (line-cut c.args.sheet.now c.cut.result.0.now c.cut.result.1 _ refl some c.cut.ensures.parts c.cut.ensures.shorter))
