use Rattle.std.proofs.Common.{◌&&◌, [], ◌∷◌, ap, ◌∙◌, sym, rules}
use borrow.Author.Tests.{tests}
use Rattle.facts.specs.Parts.{fitting}
use Rattle.facts.proofs.Partwise.{fits, watched}
use Rattle.facts.proofs.sight_text.parts_fit.Goals as goal

pub returns-then-is_none_or : goal.returns-then-is_none_or
returns-then-is_none_or c =
    let whole = fits _ _ c.cut_last.result.1.now c.is_none_or.result c.cut_last.ensures (watched c.cut_last.result.0 c.is_none_or.result c.is_none_or.ensures (λ x h. search (rules, tests))) in
    c.is_name.ensures ∙ sym (ap (λ t. t && fitting (c.cut_last.result.1.now ∷ [])) c.if-is_none_or.true) ∙ whole

pub returns-else-is_none_or : goal.returns-else-is_none_or
returns-else-is_none_or c =
    let whole = fits _ _ c.cut_last.result.1.now c.is_none_or.result c.cut_last.ensures (watched c.cut_last.result.0 c.is_none_or.result c.is_none_or.ensures (λ x h. search (rules, tests))) in
    c.if-is_none_or.false ∙ sym (ap (λ t. t && fitting (c.cut_last.result.1.now ∷ [])) c.if-is_none_or.false) ∙ whole
