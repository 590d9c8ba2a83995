use Rattle.std.proofs.Common.{◌≡◌, Some, ap, sym, ◌∙◌, arith}
use Rattle.std.proofs.lemmas.Bool.Decides.{nat_tests}
use Rattle.std.specs.Result.{result_ok}
use Rattle.sheets.specs.Layout.{letter_on}
use Rattle.sheets.specs.Letters.{permitted}
use Rattle.sheets.specs.Lines.{shown}
use Rattle.sheets.proofs.Judged.{k_here, count-wrong, nothing-wrong}
use Rattle.sheets.proofs.layout.Above.judge_letter.Goals as goal
use Rattle.sheets.proofs.layout.Above.judge_letter.Goals.{In_ok-letter}

let_through : (c : In_ok-letter) → Some c.in_ok-letter.letter ≡ permitted c.args.self.now.letter c.args.self.now.sight (letter_on (shown c.args.line.now))
let_through c = sym (ap result_ok c.in_ok-letter.was) ∙ sym c.ok_or.ensures.ok_part ∙ c.letter_on.ensures

pub returns-then-not-has_pieces : goal.returns-then-not-has_pieces
returns-then-not-has_pieces c =
    count-wrong c.args.self.now (shown c.args.line.now) c.if-not-is_legible.ensures c.in_ok-letter.letter (let_through (goal.at.returns-then-not-has_pieces c).In_ok-letter)
    (λ right. let wrong = c.if-not-has_pieces.ensures in let fields = c.fields.ensures in grind (arith, nat_tests))

pub returns : goal.returns
returns c =
    let through = let_through (goal.at.returns c).In_ok-letter in (
      k_here c.args.self.now (shown c.args.line.now) c.if-not-is_legible.ensures c.in_ok-letter.letter through,
      nothing-wrong c.args.self.now (shown c.args.line.now) c.if-not-is_legible.ensures c.in_ok-letter.letter through (let right = c.if-not-has_pieces.ensures in let fields = c.fields.ensures in grind (arith, nat_tests)),
    )
