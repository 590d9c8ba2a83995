use Rattle.std.proofs.Common.{◌≤◌, length, Some, None, sym, subst, arith}
use Rattle.std.proofs.lemmas.Bool.{leb-true, leb-false}
use Rattle.std.proofs.lemmas.Result.{err_from_is_err_and}
use Rattle.sheets.specs.Faults.{Lowest}
use Rattle.sheets.specs.Layout.{fields}
use Rattle.sheets.specs.Lines.{shown}
use Rattle.depots.specs.Tables.{tables_of}
use Rattle.plans.specs.Fields.{First, Repeated}
use Rattle.plans.specs.Plans.{moves_of}
use Rattle.plans.specs.Wrong.{LineWrong, most_moves, most_steps}
use Rattle.plans.proofs.Firsts.{all_listed, repeated_fields}
use Rattle.plans.proofs.Told.{illegible_told, many_told, no_name_told, not_listed_told, repeated_told, full_told, nothing_told}
use Rattle.plans.proofs.step_line.read_step.Goals as goal

pub returns-then-not-is_legible : goal.returns-then-not-is_legible
returns-then-not-is_legible g c = illegible_told (tables_of c.args.depot.now).names c.args.above (shown c.args.line.now) (sym c.if-not-is_legible.ensures)

pub returns-then-count-gt-MOST_MOVES : goal.returns-then-count-gt-MOST_MOVES
returns-then-count-gt-MOST_MOVES g c = many_told (tables_of c.args.depot.now).names c.args.above (shown c.args.line.now) (sym c.if-not-is_legible.ensures) (omega (arith, c.count.ensures, c.if-count-gt-MOST_MOVES.true))

pub returns-in-Some : goal.returns-in-Some
returns-in-Some g c =
    no_name_told (tables_of c.args.depot.now).names c.args.above (shown c.args.line.now) (sym c.if-not-is_legible.ensures) (omega (arith, c.count.ensures, c.if-count-gt-MOST_MOVES.false)) c.in-Some.field c.in-Some.ensures

pub returns-in_err-step : goal.returns-in_err-step
returns-in_err-step g c =
    let p = err_from_is_err_and c.from_residual.result c.from_residual.ensures.1 in
    let found = c.in_err-step.ensures in
    let low = not_listed_told (tables_of c.args.depot.now).names c.args.above (shown c.args.line.now) (sym c.if-not-is_legible.ensures) (omega (arith, c.count.ensures, c.if-count-gt-MOST_MOVES.false)) c.in_default.ensures found.0 found.2 in
    rw (p.1, p.2) (subst (Lowest (LineWrong (tables_of c.args.depot.now).names c.args.above (shown c.args.line.now))) (sym found.1) low)

pub returns-in-Some-repeated_move : goal.returns-in-Some-repeated_move
returns-in-Some-repeated_move g c =
    let names = (tables_of c.args.depot.now).names in
    let here = fields (shown c.args.line.now) in
    let all = c.in_ok-step.ensures in
    let few : length here ≤ most_moves = omega (arith, c.count.ensures, c.if-count-gt-MOST_MOVES.false) in
    let first = repeated_fields names here (moves_of c.in_ok-step.step) all (Some c.in-Some-repeated_move.field) (subst (λ ms. First (Repeated ms) (Some c.in-Some-repeated_move.field)) c.moves.ensures c.in-Some-repeated_move.ensures) in
    repeated_told names c.args.above (shown c.args.line.now) (sym c.if-not-is_legible.ensures) few c.in_default.ensures (all_listed names here (moves_of c.in_ok-step.step) all) c.in-Some-repeated_move.field first

pub returns-in_err-refuse_if_full : goal.returns-in_err-refuse_if_full
returns-in_err-refuse_if_full g c =
    let p = err_from_is_err_and c.from_residual-in_err-refuse_if_full.result c.from_residual-in_err-refuse_if_full.ensures.1 in
    let names = (tables_of c.args.depot.now).names in
    let here = fields (shown c.args.line.now) in
    let all = c.in_ok-step.ensures in
    let few : length here ≤ most_moves = omega (arith, c.count.ensures, c.if-count-gt-MOST_MOVES.false) in
    let once = repeated_fields names here (moves_of c.in_ok-step.step) all None (subst (λ ms. First (Repeated ms) None) c.moves.ensures c.in_default-repeated_move.ensures) in
    let full = c.in_err-refuse_if_full.ensures in
    let low = full_told names c.args.above (shown c.args.line.now) (sym c.if-not-is_legible.ensures) few c.in_default.ensures (all_listed names here (moves_of c.in_ok-step.step) all) once (leb-true most_steps c.args.above full.1) in
    rw (p.1, p.2) (subst (Lowest (LineWrong names c.args.above (shown c.args.line.now))) (sym full.0) low)

pub returns : goal.returns
returns g c =
    let names = (tables_of c.args.depot.now).names in
    let here = fields (shown c.args.line.now) in
    let all = c.in_ok-step.ensures in
    let few : length here ≤ most_moves = omega (arith, c.count.ensures, c.if-count-gt-MOST_MOVES.false) in
    let once = repeated_fields names here (moves_of c.in_ok-step.step) all None (subst (λ ms. First (Repeated ms) None) c.moves.ensures c.in_default-repeated_move.ensures) in
    (nothing_told names c.args.above (shown c.args.line.now) (sym c.if-not-is_legible.ensures) few c.in_default.ensures (all_listed names here (moves_of c.in_ok-step.step) all) once (leb-false most_steps c.args.above c.in_ok-refuse_if_full.ensures), all)
