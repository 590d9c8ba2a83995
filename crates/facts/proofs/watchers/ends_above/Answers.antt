use Rattle.std.proofs.Common.{ap, ◌∙◌}
use Rattle.std.specs.List.{ends_with}
use Rattle.facts.specs.Carrying.{ends_above, ends_short}
use Rattle.facts.proofs.Sameness.{same_by_definition}
use Rattle.facts.proofs.watchers.ends_above.Goals as goal

pub returns-then-watchers-last : goal.returns-then-watchers-last
returns-then-watchers-last c = ends_above _ _ _ c.if-watchers-last.true (c.ends_with.ensures.value ∙ ap (λ E. ends_with E c.args.watchers.now c.args.last.now) same_by_definition)

pub returns-else-watchers-last : goal.returns-else-watchers-last
returns-else-watchers-last c = ends_short _ _ c.if-watchers-last.false
