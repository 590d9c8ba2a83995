use Rattle.std.proofs.Common.{length, ap, ◌∙◌, arith, inl}
use Rattle.std.proofs.lemmas.Bool.Decides.{not_from_Decides}
use Rattle.std.proofs.lemmas.Iterator.Consumers.{count_from_yields_List, YieldsList-from_first}
use Rattle.sheets.specs.Lines.{shown, lines_of}
use Rattle.sheets.specs.Rest.{lines_left}
use Rattle.sheets.proofs.Rows.{few_lines}
use Rattle.sheets.proofs.layout.Above.judge_end.Goals as goal

pub count-count-requires-clause-fits : goal.count-count-requires-clause-fits
count-count-requires-clause-fits c = inl (omega (arith, few_lines c.args.sheet.now, ap length c.of.ensures))

pub returns-then-not-is_goal : goal.returns-then-not-is_goal
returns-then-not-is_goal c =
    let f = c.on.ensures in
    let count = count_from_yields_List c.of.result c.count-count.result c.count-count.ensures.ran (YieldsList-from_first shown lines_left (lines_of c.args.sheet.now) c.of.ensures) in
    (not_from_Decides _ c.is_goal.ensures c.if-not-is_goal.true, f.sheet, f.line ∙ count, f.refusal)
