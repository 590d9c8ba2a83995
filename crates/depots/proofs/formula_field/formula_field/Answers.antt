use Rattle.facts.specs.Numbering.{number_under}
use Rattle.formulas.specs.Shapes.{texted}
use Rattle.depots.proofs.Formulaic.{fact_wrong}
use Rattle.depots.proofs.formula_field.formula_field.Goals as goal

pub returns-in-Err-NoFact : goal.returns-in-Err-NoFact
returns-in-Err-NoFact g c =
    rw c.into.ensures (fact_wrong (number_under g.K.Kind c.args.listed.now) c.args.text.now (texted c.in-Ok.read) c.in-Ok.ensures.answer c.in-Err-NoFact.why (rw c.in-Err-NoFact.field-0-is at c.in-Err-NoFact.ensures))
