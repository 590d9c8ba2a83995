use Rattle.std.proofs.Common.{rules}
use Rattle.depots.specs.Tables.{tables_of}
use Rattle.formulas.specs.Formulas.{holds}
use Rattle.formulas.specs.Formulas.Formula.{all}
use Rattle.formulas.specs.Formulas.Formulas.{none}
use Rattle.formulas.specs.Shapes.{numbers}
use Rattle.walkthroughs.specs.Moments.{state_of}
use Rattle.walkthroughs.proofs.Ruling.{numbered-read}
use Rattle.walkthroughs.proofs.moment.Moment.is_true.Goals as goal

pub returns : goal.returns
returns g c = numbered-read (tables_of c.args.self.now.depot.now).formulas c.args.number (all none) (holds (state_of c.args.self.now)) (λ x. numbers x.now) _ c.is_none_or.result (λ x k. search rules) c.formula_at.result c.formula_at.ensures c.is_none_or.ensures
