use Rattle.std.proofs.Common.{◌∙◌, ap, sym}
use Rattle.depots.specs.Tables.{tables_of}
use Rattle.formulas.specs.Formulas.{holds}
use Rattle.formulas.specs.Formulas.Formula.{all}
use Rattle.formulas.specs.Formulas.Formulas.{none}
use Rattle.formulas.specs.Shapes.{numbers}
use Rattle.walkthroughs.specs.Outcomes.{left_of}
use Rattle.walkthroughs.proofs.Ruling.{numbered-none, numbered-some}
use Rattle.walkthroughs.proofs.moment.Moment.formula_after.Goals as goal

pub returns-in-None : goal.returns-in-None
returns-in-None g c = λ set below.
    c.every_set.ensures set below ∙ ap (holds (left_of c.args.self.now.row.now c.args.outcomes.now set)) (sym (numbered-none (tables_of c.args.self.now.depot.now).formulas c.args.number (all none) (sym c.in-None.ensures)))

pub returns-in-Some : goal.returns-in-Some
returns-in-Some g c = λ set below.
    c.true_after.ensures set below ∙ ap (holds (left_of c.args.self.now.row.now c.args.outcomes.now set)) (sym (numbered-some (tables_of c.args.self.now.depot.now).formulas c.args.number (all none) (numbers c.in-Some.formula.now) (sym c.in-Some.ensures)))
