use Rattle.std.proofs.Common.{◌≡◌, ◌<◌, [], length, true-eqb, false-eqb, arith}
use Rattle.replay.proofs.Reporting.{ends, last_reported, more_reported, no_bytes, trial_shorter}
use Rattle.replay.proofs.report.report.Goals as goal

pub loop-trial-smaller-in_ok-push : goal.loop-trial-smaller-in_ok-push
loop-trial-smaller-in_ok-push c = trial_shorter c.loop-trial.rest.now _ _ c.in-Some.below.now c.in-Some.ensures

pub loop-trial-preserved-in_ok-push : goal.loop-trial-preserved-in_ok-push
loop-trial-preserved-in_ok-push c =
    let some : 0 < length c.in-Some.below.now = omega (arith, false-eqb _ 0 c.if-not-is_empty.ensures) in
    rw (c.in_ok-push.ensures.items, c.in_ok-extend_from_slice.ensures.items, c.deref.ensures.value) (more_reported c.args.input.now c.loop-trial.rest.now c.loop-trial.report.items _ _ c.in-Some.below.now c.in_ok-trial_report.field-0.items c.in-Some.ensures c.in_ok-trial_report.ensures some c.loop-trial.invariant)

pub loop-trial-preserved : goal.loop-trial-preserved
loop-trial-preserved c =
    let none : c.in-Some.below.now ≡ [] = no_bytes c.in-Some.below.now (true-eqb _ 0 c.if-not-is_empty.ensures) in
    rw (c.in_ok-extend_from_slice.ensures.items, c.deref.ensures.value) (last_reported c.args.input.now c.loop-trial.rest.now c.loop-trial.report.items _ _ c.in-Some.below.now c.in_ok-trial_report.field-0.items c.in-Some.ensures c.in_ok-trial_report.ensures none c.loop-trial.invariant)

pub returns : goal.returns
returns c = ends c.args.input.now c.loop-trial.rest.now c.loop-trial.report.items c.in_default.ensures c.loop-trial.invariant
