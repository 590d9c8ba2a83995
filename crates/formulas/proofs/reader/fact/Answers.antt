use Rattle.std.proofs.Common.{arith}
use Rattle.formulas.proofs.Steps.{fact_here, no_fact_here}
use Rattle.formulas.proofs.Trees.{shape_of_fact}
use Rattle.formulas.proofs.reader.fact.Goals as goal

pub returns-in-empty-default : goal.returns-in-empty-default
returns-in-empty-default c = no_fact_here c.args.text.now (omega arith)

pub returns-in_default : goal.returns-in_default
returns-in_default c =
    rw (shape_of_fact (λ l. l.now) c.split_at.result.0, c.split_at.ensures.front, c.split_at.ensures.back, c.before_mark.ensures.value) (fact_here c.args.text.now (λ none. omega arith))
