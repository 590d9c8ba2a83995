use Rattle.std.proofs.Common.{◌≡◌, map, arith, length, ◌∙◌}
use Rattle.std.proofs.lemmas.List.{take_at}
use Rattle.walkthroughs.specs.Exchanges.{call_of}
use Rattle.replay.specs.CallLines.{as_calls}
use Rattle.replay.proofs.Reporting.{in_words, replied}
use Rattle.replay.proofs.report.trial_report.Goals as goal

pub returns-in-Ok : goal.returns-in-Ok
returns-in-Ok c =
    let kept : length c.send.new.exchanges ≡ c.in_ok-exchanges.exchanges.len = omega (arith, c.send.auto.exchanges, c.deref_mut.ensures.len, c.in_ok-exchanges.exchanges.ok) in
    let after : c.deref-in-Ok-2.result.now ≡ c.send.new.exchanges = c.deref-in-Ok-2.ensures.value ∙ take_at c.send.new.exchanges _ _ kept in
    let told = rw (c.deref-in-Ok.ensures.value, after) at c.replies.ensures in
    let sent = rw c.deref.ensures.value at c.in_ok-exchanges.ensures in
    in_words _ _ c.replies.result (λ v is. replied c.args.trial.now.depot.now c.args.trial.now.calls.now (as_calls c.in_ok-lines.lines.items) (map (λ x. call_of x.call) c.in_ok-exchanges.exchanges.items) (map (λ x. x.answer) c.send.new.exchanges) v.items c.in_ok-lines.ensures sent (rw c.deref_mut.ensures.value at c.in-Ok.ensures) is) told
