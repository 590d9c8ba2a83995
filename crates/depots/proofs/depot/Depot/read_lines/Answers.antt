use Rattle.std.proofs.Common.{rules, ◌+◌, subst, arith, inl}
use Rattle.std.specs.Iterator.Adapters.{enumerate_source}
use Rattle.std.proofs.lemmas.Result.{err_from_is_err_and, MatchResult-at_ok, MatchResult-at_err}
use Rattle.sheets.specs.declared.faults.Sheet.TheVariants.{Depot}
use Rattle.sheets.specs.Lines.{shown}
use Rattle.sheets.proofs.Handed.{value_kept, error_made}
use Rattle.sheets.proofs.Rows.{few_numbered}
use Rattle.depots.specs.Kinds.{meaning_of}
use Rattle.depots.specs.Troubles.{Placed}
use Rattle.depots.proofs.Walk.{stopped, too_long, walk-on, ended}
use Rattle.depots.proofs.depot.Depot.read_lines.Goals as goal

pub returns-in_err-judge_limit : goal.returns-in_err-judge_limit
returns-in_err-judge_limit g c =
    let p = err_from_is_err_and c.from_residual.result c.from_residual.ensures.1 in
    rw (p.1, p.2) (too_long (meaning_of g.K.Kind g.K.TextKind.reading_under) c.args.sheet.now _ c.in_err-judge_limit.ensures)

pub loop-i-init-derived : goal.loop-i-init-derived
loop-i-init-derived g c =
    let few = few_numbered c.args.sheet.now _ _ _ c.into_iter-i-iterator.ensures.into_iter_gives c.enumerate-i-items.ensures.source c.enumerate-i-items.ensures.count c.of.ensures in
    ((tt, tt, inl (omega (arith, few))), tt)

pub returns-in_err-letter : goal.returns-in_err-letter
returns-in_err-letter g c =
    let p = err_from_is_err_and c.from_residual-in_err-letter.result c.from_residual-in_err-letter.ensures.1 in
    let made = error_made _ c.read_line.result c.map_err.result _ c.map_err.ensures.cases c.in_err-letter.was in
    let step = c.in-Some.ensures.steps in
    let told = MatchResult-at_err _ _ made.0 made.1 c.read_line.ensures in
    let at : Placed Depot (c.in-Some.i + 1) made.0 c.in_err-letter.field-0.0 = search (rules, made.2) in
    rw (p.1, p.2)
    (stopped (meaning_of g.K.Kind g.K.TextKind.reading_under) c.args.sheet.now _ _ _ _ c.loop-i.invariant (shown c.in-Some.line) (enumerate_source c.next.new.self).rest.now step.0 made.0 c.in_err-letter.field-0.0 c.in_ok-judge_limit.ensures told (subst (λ k. Placed Depot (k + 1) made.0 c.in_err-letter.field-0.0) step.1 at))

pub loop-i-preserved : goal.loop-i-preserved
loop-i-preserved g c =
    let step = c.in-Some.ensures.steps in
    let next = c.below-above.ensures in
    let added = MatchResult-at_ok _ _ c.in_ok-letter.letter (value_kept _ c.read_line.result c.map_err.result _ c.map_err.ensures.cases c.in_ok-letter.was) c.read_line.ensures in
    rw step.2 (walk-on (meaning_of g.K.Kind g.K.TextKind.reading_under) c.args.sheet.now _ _ _ _ c.loop-i.invariant (shown c.in-Some.line) (enumerate_source c.next.new.self).rest.now step.0 c.in_ok-letter.letter _ _ added next.letter next.sight)

pub returns : goal.returns
returns g c =
    let none = c.in-None.ensures.steps in
    ended (meaning_of g.K.Kind g.K.TextKind.reading_under) c.args.sheet.now _ _ _ _ c.loop-i.invariant none.0.0 c.in_ok-judge_limit.ensures c.judge_end.result c.judge_end.ensures
