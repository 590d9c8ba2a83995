use Rattle.std.proofs.Common.{false, inr, subst}
use Rattle.depots.specs.FormulaFields.{FormulaRead}
use Rattle.depots.specs.Kinds.{meaning_of}
use Rattle.depots.specs.Tables.{tables_of}
use Rattle.depots.specs.Wrong.{number_among, shown_fields}
use Rattle.depots.proofs.Entered.{goal_read, goal_told}
use Rattle.depots.proofs.Returned.{IsOnly, handed_on, only_told}
use Rattle.sheets.proofs.Handed.{value_kept}
use Rattle.depots.proofs.depot.Depot.read_goal.Goals as goal

pub returns-in_err-goal : goal.returns-in_err-goal
returns-in_err-goal g c =
    rw (handed_on c.from_residual-in_err-goal.result c.in_err-goal.field-0.0 c.from_residual-in_err-goal.ensures.1)
    (inr (goal_told (meaning_of g.K.Kind g.K.TextKind.reading_under) (tables_of c.args.self.now) (shown_fields c.args.fields) c.in_ok-formula.field-0 c.in_ok-formula.ensures _ (only_told c.in_ok-formula.field-0 c.map_err.result _ c.map_err.ensures.cases c.in_err-goal.was false)))

pub returns : goal.returns
returns g c =
    let got = subst (FormulaRead (number_among (meaning_of g.K.Kind g.K.TextKind.reading_under) (tables_of c.args.self.now)) c.args.fields.second.now) (value_kept IsOnly c.in_ok-formula.field-0 c.map_err.result c.in_ok-goal.goal c.map_err.ensures.cases c.in_ok-goal.was) c.in_ok-formula.ensures in
    goal_read (meaning_of g.K.Kind g.K.TextKind.reading_under) (tables_of c.args.self.now) (shown_fields c.args.fields) c.in_ok-goal.goal got c.added_to.result c.added_to.ensures
