use Rattle.std.proofs.Common.{◌≡◌, ◌≤◌, ◌<◌, Ok, sym, ◌∙◌, subst, inl, inr}
use Rattle.std.proofs.lemmas.Bool.{leb-false, leb-true}
use Rattle.std.specs.Result.{result_err}
use Rattle.sheets.specs.declared.letters.Letter.TheVariants as letter
use Rattle.sheets.specs.Faults.{Lowest}
use Rattle.depots.specs.FormulaFields.{FormulaRead}
use Rattle.depots.specs.Kinds.{meaning_of}
use Rattle.depots.specs.Tables.{move_of, tables_of}
use Rattle.depots.specs.Wrong.{LineWrong, most_moves, number_among, shown_fields}
use Rattle.depots.proofs.Entered.{move_full, move_read, move_told}
use Rattle.depots.proofs.Fieldwise.{two-told}
use Rattle.depots.proofs.Kept.{count_of}
use Rattle.depots.proofs.Returned.{handed_on, lower-at, read-at}
use Rattle.depots.proofs.depot.Depot.read_move.Given as given
use Rattle.depots.proofs.depot.Depot.read_move.Goals as goal
use Rattle.depots.proofs.depot.Depot.read_move.Goals.{In_ok-need}

-- the name and the need that were read
named : (g : given.Over) (c : In_ok-need g) → c.new_move_name.result ≡ Ok tt
named g c = read-at 2 c.new_move_name.result c.at_field.result _ c.at_field.ensures c.in_ok-need.ensures.0

got : (g : given.Over) (c : In_ok-need g) → FormulaRead (number_among (meaning_of g.K.Kind g.K.TextKind.reading_under) (tables_of c.args.self.now)) c.args.fields.third.now (Ok c.in_ok-need.need)
got g c = subst (FormulaRead (number_among (meaning_of g.K.Kind g.K.TextKind.reading_under) (tables_of c.args.self.now)) c.args.fields.third.now) (read-at 3 c.in_ok-formula.field-0 c.at_field-2.result _ c.at_field-2.ensures c.in_ok-need.ensures.1) c.in_ok-formula.ensures

pub returns-in_err-need : goal.returns-in_err-need
returns-in_err-need g c =
    let w = c.in_err-need.field-0.0 in
    let is = c.in_err-need.ensures ∙ lower-at 2 3 c.new_move_name.result c.in_ok-formula.field-0 c.at_field.result c.at_field-2.result c.at_field.ensures c.at_field-2.ensures in
    rw (handed_on c.from_residual-in_err-need.result w c.from_residual-in_err-need.ensures.1)
    (inr (move_told (meaning_of g.K.Kind g.K.TextKind.reading_under) (tables_of c.args.self.now) (shown_fields c.args.fields) c.new_move_name.result c.new_move_name.ensures c.in_ok-formula.field-0 c.in_ok-formula.ensures w (two-told (result_err c.new_move_name.result) (result_err c.in_ok-formula.field-0) w is)))

pub returns-in_err-refuse_if_full : goal.returns-in_err-refuse_if_full
returns-in_err-refuse_if_full g c =
    let at = (goal.at.returns-in_err-refuse_if_full g c).In_ok-need in
    let many = subst (λ n. most_moves ≤ n) (count_of move_of c.args.self.now.moves c.len.result c.len.ensures) (leb-true most_moves c.len.result c.in_err-refuse_if_full.ensures.1) in
    rw (handed_on c.from_residual-in_err-refuse_if_full.result c.in_err-refuse_if_full.field-0.0 c.from_residual-in_err-refuse_if_full.ensures.1)
    (inr (subst (Lowest (LineWrong (meaning_of g.K.Kind g.K.TextKind.reading_under) (tables_of c.args.self.now) letter.Move (shown_fields c.args.fields))) (sym c.in_err-refuse_if_full.ensures.0) (move_full (meaning_of g.K.Kind g.K.TextKind.reading_under) (tables_of c.args.self.now) (shown_fields c.args.fields) c.new_move_name.result c.new_move_name.ensures (named g at) c.in_ok-need.need (got g at) (inl many))))

pub returns : goal.returns
returns g c =
    let at = (goal.at.returns g c).In_ok-need in
    let few = subst (λ n. n < most_moves) (count_of move_of c.args.self.now.moves c.len.result c.len.ensures) (leb-false most_moves c.len.result c.in_ok-refuse_if_full.ensures) in
    move_read (meaning_of g.K.Kind g.K.TextKind.reading_under) (tables_of c.args.self.now) (shown_fields c.args.fields) c.new_move_name.result c.new_move_name.ensures (named g at) c.in_ok-need.need (got g at) few c.added_to.result c.added_to.ensures
