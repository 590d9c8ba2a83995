use Rattle.std.proofs.Common.{◌≡◌, ◌∙◌, eqb, ⊎_elim, sym, ap, rules, arith}
use Rattle.std.proofs.lemmas.Bool.{false≢true}
use Rattle.std.proofs.lemmas.Fn.{always_returns_same}
use borrow.Author.Tests.{tests}
use Rattle.sheets.proofs.Cuts.{weaker}
use Rattle.facts.specs.Parts.{parts_of}
use Rattle.facts.proofs.Partwise.{halves}
use Rattle.facts.proofs.sight_text.cut_last.Goals as goal

pub returns : goal.returns
returns c =
    let first = c.next.ensures.steps in
    let second = c.next-2.ensures.steps in
    let whole = c.rsplitn-halves.ensures in
    let one : c.next.new.self.count ≡ 1 = omega (arith, first.0, whole.count) in
    let xs = c.rsplitn-halves.result.parts.rest.now in
    ap parts_of (sym whole.rest) ∙ halves 46 xs c.next.new.self.parts.rest.now c.next.new.self.parts.done c.next.result c.next-2.result c.args.text c.unwrap_or-matter.result c.unwrap_or-matter.ensures
    (weaker c.next.result first.1 (⊎_elim (λ z. omega (arith, z, whole.count)) (λ t. false≢true (sym whole.done ∙ t))) (λ x h. (h.2, (h.4 (omega (arith, whole.count)) (λ b. eqb b 46) (always_returns_same _ (λ a r. r ≡ eqb a.0.now 46) _ (λ a r q k. search (rules, tests)))).1)))
    (weaker c.next-2.result second.1 (⊎_elim (λ z. absurd (omega (arith, z, one))) (λ t. t)) (λ x h. (h.3, rw (h.1 one) at h.2)))
