use Rattle.std.proofs.Common.{inr}
use Rattle.std.proofs.lemmas.Result.{err_from_is_err_and}
use Rattle.sheets.specs.Lines.{shown}
use Rattle.depots.specs.Kinds.{meaning_of}
use Rattle.depots.specs.Tables.{tables_of}
use Rattle.depots.specs.Wrong.{shown_fields}
use Rattle.depots.proofs.Added.{layout_told, line-added, line_refused}
use Rattle.depots.proofs.depot.Depot.read_line.Goals as goal

pub returns-in_err-letter : goal.returns-in_err-letter
returns-in_err-letter g c =
    let p = err_from_is_err_and c.from_residual.result c.from_residual.ensures.1 in
    rw (p.1, p.2) (inr (layout_told (meaning_of g.K.Kind g.K.TextKind.reading_under) (tables_of c.args.self.now) c.args.above.now (shown c.args.line.now) _ c.in_err-letter.ensures))

pub returns-in_err-take : goal.returns-in_err-take
returns-in_err-take g c =
    let p = err_from_is_err_and c.from_residual-in_err-take.result c.from_residual-in_err-take.ensures.1 in
    let laid_out = c.in_ok-letter.ensures in
    rw (p.1, p.2) (line_refused (meaning_of g.K.Kind g.K.TextKind.reading_under) (tables_of c.args.self.now) c.args.above.now (shown c.args.line.now) c.in_ok-letter.letter laid_out.0 laid_out.1 (shown_fields c.fields_of.result) c.fields_of.ensures _ c.in_err-take.ensures)

pub returns : goal.returns
returns g c =
    let laid_out = c.in_ok-letter.ensures in
    line-added (meaning_of g.K.Kind g.K.TextKind.reading_under) (tables_of c.args.self.now) c.args.above.now (shown c.args.line.now) c.in_ok-letter.letter laid_out.0 laid_out.1 (shown_fields c.fields_of.result) c.fields_of.ensures _ c.in_ok-take.ensures
