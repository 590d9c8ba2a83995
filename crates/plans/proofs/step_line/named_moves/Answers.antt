use Rattle.std.proofs.Common.{◌+◌, length, sym, ap, ◌∙◌}
use Rattle.std.proofs.lemmas.Result.{err_from_is_err_and}
use Rattle.std.specs.Option.{option_map}
use Rattle.sheets.specs.declared.refusals.Refusal.TheVariants.{NotListed}
use Rattle.sheets.specs.Pieces.{following, pieces}
use Rattle.facts.specs.ShortLists.{entries_of}
use Rattle.depots.specs.Tables.{tables_of}
use Rattle.plans.proofs.Firsts.{unlisted_first}
use Rattle.plans.proofs.Told.{unlisted_told}
use Rattle.plans.proofs.step_line.named_moves.Goals as goal

pub returns-in_err-number : goal.returns-in_err-number
returns-in_err-number g c =
    let p = err_from_is_err_and c.from_residual.result c.from_residual.ensures.1 in
    let moves = entries_of c.loop-rest.moves in
    let told = unlisted_told c.move_named.result (length c.entries.result.now + 1) c.ok_or.result c.in_err-number.field-0.0 c.in_err-number.was c.ok_or.ensures.value in
    let next = ap (λ o. following 9 (option_map (λ x. x.now) o)) c.in-Some.is ∙ c.cut.ensures.parts in
    let first = unlisted_first (tables_of c.args.depot.now).names (pieces 9 c.args.text.now) moves _ _ _ c.loop-rest.invariant next (sym c.move_named.ensures ∙ told.0) in
    rw (p.1, p.2) (length moves + 1, told.1 ∙ ap (λ ms. NotListed (length ms + 1)) c.entries.ensures, first)
