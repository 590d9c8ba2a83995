use Rattle.std.proofs.Common.{◌&&◌, ◌||◌, [], get_or, ap, ◌∙◌}
use Rattle.std.proofs.lemmas.List.{get_or_default}
use Rattle.formulas.specs.Truth.{stands_in}
use Rattle.walkthroughs.specs.declared.firing.Outcome.{Outcome}
use Rattle.walkthroughs.specs.SetRows.{has}
use Rattle.walkthroughs.proofs.Afterwards.{left-told, unite_all, unite_none, unite_turn}
use Rattle.walkthroughs.proofs.over_sets.standing.Goals as goal

pub loop-i-init : goal.loop-i-init
loop-i-init c = (
  λ set below. unite_none (λ o. stands_in o.adds c.args.fact) c.args.outcomes.now set _ (c.no_set-added.ensures set below),
  λ set below. unite_none (λ o. stands_in o.removes c.args.fact) c.args.outcomes.now set _ (c.no_set-removed.ensures set below),
)

pub loop-i-preserved : goal.loop-i-preserved
loop-i-preserved c =
    let f = c.args.fact in
    let os = c.args.outcomes.now in
    let i = c.loop-i.i in
    let within = c.loop-i-test.true in
    let o : Outcome = get_or os i (record { adds = []; removes = [] }) in
    let is = get_or_default os i (record { adds = []; removes = [] }) o within in
    let with = c.sets_with-sets in (
      λ set below. unite_turn (λ x. stands_in x.adds f) os set (has c.loop-i.added set) (has c.with_more-added.result set) i o within is (c.loop-i.invariant.0 set below) (has with.result set) (with.ensures set below) (c.with_more-added.ensures set below ∙ ap (λ t. has c.loop-i.added set || (t && has with.result set)) c.stands.ensures),
      λ set below. unite_turn (λ x. stands_in x.removes f) os set (has c.loop-i.removed set) (has c.with_more-removed.result set) i o within is (c.loop-i.invariant.1 set below) (has with.result set) (with.ensures set below) (c.with_more-removed.ensures set below ∙ ap (λ t. has c.loop-i.removed set || (t && has with.result set)) c.stands-in-loop-i.ensures),
    )

pub returns : goal.returns
returns c = λ set below.
    left-told _ _ _ _ _ _ _ _ (c.with_more.ensures set below) (unite_all (λ o. stands_in o.adds c.args.fact) c.args.outcomes.now set _ c.loop-i.i c.loop-i-test.false (c.loop-i.invariant.0 set below))
    c.stands-2.ensures (c.others.ensures set below) (unite_all (λ o. stands_in o.removes c.args.fact) c.args.outcomes.now set _ c.loop-i.i c.loop-i-test.false (c.loop-i.invariant.1 set below))
