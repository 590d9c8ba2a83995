use Rattle.std.proofs.Common.{◌≤◌, length, map, sym, subst, inr, arith}
use Rattle.std.proofs.lemmas.List.{length-map}
use Rattle.std.proofs.lemmas.Result.{err_from_is_err_and}
use Rattle.depots.specs.Tables.{tables_of}
use Rattle.walkthroughs.specs.Firing.{start_of}
use Rattle.walkthroughs.specs.Ruled.{ruled}
use Rattle.walkthroughs.specs.Walkthroughs.{held}
use Rattle.walkthroughs.proofs.Calling.{law}
use Rattle.plans.specs.Judging.{Passed, StoppedAt}
use Rattle.plans.specs.Plans.{moves_of}
use Rattle.plans.proofs.Passing.{all_passed, moves_at, passes_next, stopped}
use Rattle.plans.proofs.runner.run_plan.Goals as goal

pub returns-in_err-send : goal.returns-in_err-send
returns-in_err-send g c =
    let p = err_from_is_err_and c.from_residual-in_err-send.result c.from_residual-in_err-send.ensures.1 in
    let t = tables_of c.args.depot.now in
    let d = ruled g.K.Kind.carrying t in
    let items = c.steps-step-items.result.now in
    let i = c.loop-i.i in
    let at = moves_at items i c.step-item.result c.loop-i-test.true c.step-item.is in
    let refused = c.in_err-send.ensures in
    let stop = stopped d (law g.K.Kind.carrying g.met.K.Kind.reflexive g.met.K.Kind.transitive t) (map moves_of items) (held c.loop-i.walkthrough) i (moves_of c.step-item.result) c.in_err-send.field-0.0.refusal at c.loop-i.invariant refused.2.0 in
    rw (p.1, p.2) (inr (c.in_ok-walkthrough.ensures.0, refused.0, subst (λ steps. StoppedAt d steps c.in_err-send.field-0.0.line c.in_err-send.field-0.0.refusal) c.steps-step-items.ensures (subst (λ n. StoppedAt d (map moves_of items) n c.in_err-send.field-0.0.refusal) (sym refused.1) stop)))

pub loop-i-preserved : goal.loop-i-preserved
loop-i-preserved g c =
    let d = ruled g.K.Kind.carrying (tables_of c.args.depot.now) in
    let items = c.steps-step-items.result.now in
    let at = moves_at items c.loop-i.i c.step-item.result c.loop-i-test.true c.step-item.is in
    let done = c.in_ok-send.ensures in
    passes_next d (start_of d) (held c.loop-i.walkthrough).stands (held c.send.new.walkthrough).stands (map moves_of items) c.loop-i.i (moves_of c.step-item.result) at c.loop-i.invariant done.0 done.2

pub returns : goal.returns
returns g c =
    let t = tables_of c.args.depot.now in
    let d = ruled g.K.Kind.carrying t in
    let items = c.steps-step-items.result.now in
    let left = held c.loop-i.walkthrough in
    let all : length (map moves_of items) ≤ c.loop-i.i = omega (arith, length-map items moves_of, c.loop-i-test.false) in
    (c.in_ok-walkthrough.ensures.0, subst (λ steps. Passed d steps left) c.steps-step-items.ensures (all_passed d (law g.K.Kind.carrying g.met.K.Kind.reflexive g.met.K.Kind.transitive t) (map moves_of items) left c.loop-i.i all c.loop-i.invariant))
