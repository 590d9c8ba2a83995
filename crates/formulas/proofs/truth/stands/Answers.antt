use Rattle.std.proofs.Common.{rules}
use Rattle.formulas.proofs.Marked.{told_stands}
use Rattle.formulas.proofs.truth.stands.Goals as goal

pub returns : goal.returns
returns c = told_stands c.args.standing.now c.args.number c.entry_at.result c.is_some_and.result c.entry_at.ensures c.is_some_and.ensures (λ x told. search rules)
