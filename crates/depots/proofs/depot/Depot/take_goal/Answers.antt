use Rattle.std.proofs.Common.{sym, ap, subst}
use Rattle.formulas.specs.Shapes.{numbers}
use Rattle.depots.specs.Kinds.{meaning_of}
use Rattle.depots.specs.Spelling.{AddsFormula}
use Rattle.depots.specs.Tables.{tables_of, with_goal}
use Rattle.depots.proofs.Kept.{count_of}
use Rattle.depots.proofs.depot.Depot.take_goal.Goals as goal

pub returns : goal.returns
returns g c =
    let read = c.in_ok-goal.ensures in
    let v = tables_of c.push_formula.new.self in (
      read.0,
      (
        v,
        subst (AddsFormula (meaning_of g.K.Kind g.K.TextKind.reading_under) (tables_of c.args.self.now) c.args.fields.second.now) (sym c.in_ok-push_formula.ensures) read.1,
        ap (with_goal v) (count_of numbers c.push_formula.new.self.formulas c.len.result c.len.ensures),
      ),
    )
