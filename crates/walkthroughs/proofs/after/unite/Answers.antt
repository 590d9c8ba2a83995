use Rattle.std.proofs.Common.{[], get_or, refl}
use Rattle.std.proofs.lemmas.List.{get_or_default}
use Rattle.walkthroughs.specs.declared.firing.Outcome.{Outcome}
use Rattle.formulas.specs.Truth.{stands_in}
use Rattle.walkthroughs.proofs.Afterwards.{unite_all, unite_more, unite_none, unite_on}
use Rattle.walkthroughs.proofs.after.unite.Goals as goal
use Rattle.walkthroughs.proofs.after.unite.Goals.{then-in_set, else-in_set}

pub loop-i-init : goal.loop-i-init
loop-i-init c = (
  λ f. unite_none (λ o. stands_in o.adds f) c.args.outcomes.now c.args.set _ (c.nothing-all.ensures.adds f),
  λ f. unite_none (λ o. stands_in o.removes f) c.args.outcomes.now c.args.set _ (c.nothing-all.ensures.removes f),
)

pub loop-i-preserved : goal.loop-i-preserved
loop-i-preserved c =
    let inv = c.loop-i.invariant in
    let within = c.loop-i-test.true in
    let i = c.loop-i.i in
    let o : Outcome = get_or c.args.outcomes.now i (record { adds = []; removes = [] }) in
    let is = get_or_default c.args.outcomes.now i (record { adds = []; removes = [] }) o within in
    let told = c.in_set.ensures in
    elim c.if-in_set.branch [
      | then-in_set w ↦
          rw w.all-is (
            λ f. unite_more (λ o. stands_in o.adds f) c.args.outcomes.now c.args.set _ _ i o within is (inv.0 f) c.in_set.result told w.if-in_set.true (w.joined-all.ensures f),
            λ f. unite_more (λ o. stands_in o.removes f) c.args.outcomes.now c.args.set _ _ i o within is (inv.1 f) c.in_set.result told w.if-in_set.true (w.joined-all-then-in_set.ensures f),
          )
      | else-in_set w ↦
          rw w.all-is (
            λ f. unite_on (λ o. stands_in o.adds f) c.args.outcomes.now c.args.set _ _ i o within is (inv.0 f) c.in_set.result told w.if-in_set.false refl,
            λ f. unite_on (λ o. stands_in o.removes f) c.args.outcomes.now c.args.set _ _ i o within is (inv.1 f) c.in_set.result told w.if-in_set.false refl,
          )
    ]

pub returns : goal.returns
returns c =
    record {
      adds = λ f. unite_all (λ o. stands_in o.adds f) c.args.outcomes.now c.args.set _ c.loop-i.i c.loop-i-test.false (c.loop-i.invariant.0 f);
      removes = λ f. unite_all (λ o. stands_in o.removes f) c.args.outcomes.now c.args.set _ c.loop-i.i c.loop-i-test.false (c.loop-i.invariant.1 f);
    }
