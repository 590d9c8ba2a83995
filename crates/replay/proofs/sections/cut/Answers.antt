use Rattle.std.proofs.Common.{◌-◌, length, take, ap, ◌∙◌}
use Rattle.replay.proofs.Sectioned.{above_taken, from_within}
use Rattle.replay.proofs.sections.cut.Goals as goal

pub overflow_sub-input : goal.overflow_sub-input
overflow_sub-input c = rw c.from_empty_line-closed.ensures (from_within c.args.input.now)

pub returns-clause-above : goal.returns-clause-above
returns-clause-above c = c.split_at.ensures.front ∙ (ap (λ closed. take (length c.args.input.now - length closed) c.args.input.now) c.from_empty_line-closed.ensures ∙ above_taken c.args.input.now)
