use Rattle.std.proofs.Common.{◌≡◌, Err, sym, ◌∙◌, rules}
use Rattle.facts.specs.declared.names.NoFact.TheVariants.{NotListed}
use Rattle.facts.specs.Texts.{zones_of, matters_of}
use Rattle.facts.proofs.Readings.{unlisted_watchers, unlisted_matter, both_listed}
use Rattle.facts.proofs.sight_text.read.Goals as goal

pub returns-in_err-watchers : goal.returns-in_err-watchers
returns-in_err-watchers c =
    let named = rw c.deref.ensures.value at c.listed_watchers.ensures in
    let told : c.from_residual.result ≡ Err c.in_err-watchers.field-0.0 = search rules in
    told ∙ unlisted_watchers (zones_of c.args.names.now) (matters_of c.args.names.now) c.args.text.now _ c.cut_last.result.1.now (sym c.has_form.ensures ∙ c.if-not-has_form.false) c.cut_last.ensures _ (sym c.in_err-watchers.was ∙ named)

pub returns-in_err-matter : goal.returns-in_err-matter
returns-in_err-matter c =
    let told : c.from_residual-in_err-matter.result ≡ Err NotListed = search rules in
    let named = rw c.deref.ensures.value at c.listed_watchers.ensures in
    let found = rw c.deref-2.ensures.value at c.find.ensures in
    told ∙ unlisted_matter (zones_of c.args.names.now) (matters_of c.args.names.now) c.args.text.now _ c.cut_last.result.1.now (sym c.has_form.ensures ∙ c.if-not-has_form.false) c.cut_last.ensures c.in_ok-watchers.watchers (sym c.in_ok-watchers.was ∙ named) (sym c.in_err-matter.ensures.ok_part ∙ found)

pub returns : goal.returns
returns c =
    let named = rw c.deref.ensures.value at c.listed_watchers.ensures in
    let found = rw c.deref-2.ensures.value at c.find.ensures in
    both_listed (zones_of c.args.names.now) (matters_of c.args.names.now) c.args.text.now _ c.cut_last.result.1.now (sym c.has_form.ensures ∙ c.if-not-has_form.false) c.cut_last.ensures c.in_ok-watchers.watchers (sym c.in_ok-watchers.was ∙ named) c.in_ok-matter.matter (sym c.in_ok-matter.ensures.ok_part ∙ found)
