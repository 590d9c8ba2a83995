use Rattle.std.proofs.Common.{◌&&◌, sym, take, ap, ◌∙◌}
use Rattle.std.specs.List.{list_all}
use Rattle.std.proofs.lemmas.List.{take_all}
use Rattle.std.proofs.lemmas.List.Folds.{list_all_more}
use Rattle.formulas.specs.Formulas.{holds}
use Rattle.formulas.specs.Shapes.{numbers}
use Rattle.formulas.proofs.Rows.{holds-All}
use Rattle.walkthroughs.specs.Outcomes.{left_of}
use Rattle.walkthroughs.specs.SetRows.{has}
use Rattle.walkthroughs.proofs.over_sets.+true_after.Goals as goal

pub loop-one-init : goal.loop-one-init
loop-one-init t c = c.every_set-sets.ensures

pub loop-one-preserved : goal.loop-one-preserved
loop-one-preserved t c = λ set below.
    let s = left_of c.args.start.now c.args.outcomes.now set in
    let items = c.deref-one-items.result.now in
    c.both-sets.ensures set below
    ∙ ap (λ b. b && has c.true_after-in-loop-one.result set) (c.loop-one.invariant set below)
    ∙ ap (λ b. list_all (λ one. holds s (numbers one)) (take c.loop-one.one-index items) && b) (c.true_after-in-loop-one.ensures set below ∙ ap (λ x. holds s (numbers x)) c.one-item.is)
    ∙ sym (list_all_more (λ one. holds s (numbers one)) items c.loop-one.one-index c.one-item.result c.loop-one-test.true)

pub returns-after-loop-one : goal.returns-after-loop-one
returns-after-loop-one t c = λ set below.
    let s = left_of c.args.start.now c.args.outcomes.now set in
    c.loop-one.invariant set below
    ∙ ap (list_all (λ one. holds s (numbers one))) (take_all c.loop-one.one-index c.deref-one-items.result.now c.loop-one-test.false ∙ c.deref-one-items.ensures.value)
    ∙ holds-All s c.in-All.inner
    ∙ ap (λ x. holds s (numbers x)) (sym c.in-All.is)
