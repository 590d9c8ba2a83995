use Rattle.std.proofs.Common.{rules, ◌≡◌, ◌+◌, arith, sym, ap, ◌∙◌}
use Rattle.std.specs.Option.{option_map}
use Rattle.std.proofs.lemmas.Iterator.Consumers.{nth_from_yields_List, YieldsList-from_first}
use Rattle.sheets.specs.Lines.{shown, lines_of}
use Rattle.sheets.specs.Rest.{lines_left}
use Rattle.sheets.proofs.Rows.{line-numbered, line-text}
use Rattle.sheets.proofs.faulty_line.line_at.Goals as goal

pub returns : goal.returns
returns c =
    let at = nth_from_yields_List c.nth.result c.nth.new.self c.in_ok-index.index c.nth.ensures.ran (YieldsList-from_first shown lines_left {s = c.of.result} (lines_of c.args.sheet.now) c.of.ensures) in
    let number : c.args.number ≡ c.in_ok-index.index + 1 = omega (arith, c.in_ok-index.ensures) in
    let text = line-text c.nth.result c.map.result c.map.ensures.cases (λ l x told. search rules) in
    text ∙ ap (option_map (λ l. l.text)) at ∙ sym (line-numbered c.args.sheet.now c.args.number c.in_ok-index.index number)
