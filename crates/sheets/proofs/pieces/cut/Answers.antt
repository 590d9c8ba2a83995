use Rattle.std.proofs.Common.{◌≡◌, ◌∙◌, eqb, ⊎_elim, sym, ap, rules, arith}
use Rattle.std.proofs.lemmas.Bool.{false≢true}
use Rattle.std.proofs.lemmas.Fn.{always_returns_same}
use borrow.Author.Tests.{tests}
use Rattle.sheets.specs.Pieces.{pieces}
use Rattle.sheets.proofs.Cuts.{halves, weaker}
use Rattle.sheets.proofs.pieces.cut.Goals as goal

pub returns-clause-parts : goal.returns-clause-parts
returns-clause-parts c =
    let first = c.next.ensures.steps in
    let second = c.next-2.ensures.steps in
    let whole = c.splitn-halves.ensures in
    let mark = c.args.mark in
    let one : c.next.new.self.count ≡ 1 = omega (arith, first.0, whole.count) in
    let xs = c.splitn-halves.result.parts.rest.now in
    let cut = ap (pieces mark) (sym whole.rest) ∙ halves mark xs c.next.new.self.parts.rest.now c.next.new.self.parts.done c.next.result c.next-2.result c.args.text c.unwrap_or-first.result c.unwrap_or-first.ensures
    (weaker c.next.result first.1 (⊎_elim (λ z. omega (arith, z, whole.count)) (λ t. false≢true (sym whole.done ∙ t))) (λ x h. (h.2, (h.4 (omega (arith, whole.count)) (λ b. eqb b mark) (always_returns_same _ (λ a r. r ≡ eqb a.0.now mark) _ (λ a r q k. search (rules, tests)))).1)))
    (weaker c.next-2.result second.1 (⊎_elim (λ z. absurd (omega (arith, z, one))) (λ t. t)) (λ x h. (h.3, rw (h.1 one) at h.2))) in
    search rules
