use Rattle.std.proofs.Common.{rules, ◌+◌, subst, arith, inl}
use Rattle.std.specs.Iterator.Adapters.{enumerate_source}
use Rattle.std.proofs.lemmas.Result.{err_from_is_err_and, MatchResult-at_ok, MatchResult-at_err}
use Rattle.sheets.specs.declared.faults.Sheet.TheVariants.{Plan}
use Rattle.sheets.specs.Lines.{shown}
use Rattle.sheets.proofs.Handed.{value_kept, error_made}
use Rattle.sheets.proofs.Rows.{few_numbered}
use Rattle.depots.specs.Tables.{tables_of}
use Rattle.depots.specs.Troubles.{Placed}
use Rattle.plans.proofs.Walk.{stopped, too_long, walk-on, ended}
use Rattle.plans.proofs.plan_reader.read_plan.Goals as goal

pub returns-in_err-judge_limit : goal.returns-in_err-judge_limit
returns-in_err-judge_limit g c =
    let p = err_from_is_err_and c.from_residual.result c.from_residual.ensures.1 in
    rw (p.1, p.2) (too_long (tables_of c.args.depot.now).names c.args.sheet.now _ c.in_err-judge_limit.ensures)

pub loop-i-init-derived : goal.loop-i-init-derived
loop-i-init-derived g c =
    let few = few_numbered c.args.sheet.now _ _ _ c.into_iter-i-iterator.ensures.into_iter_gives c.enumerate-i-items.ensures.source c.enumerate-i-items.ensures.count c.of.ensures in
    ((tt, tt, inl (omega (arith, few))), tt)

pub returns-in_err-map_err : goal.returns-in_err-map_err
returns-in_err-map_err g c =
    let p = err_from_is_err_and c.from_residual-in_err-map_err.result c.from_residual-in_err-map_err.ensures.1 in
    let made = error_made _ c.add_step-added.result c.map_err.result _ c.map_err.ensures.cases c.in_err-map_err.was in
    let step = c.in-Some.ensures.steps in
    let told = MatchResult-at_err _ _ made.0 made.1 c.add_step-added.ensures in
    let at : Placed Plan (c.in-Some.i + 1) made.0 c.in_err-map_err.field-0.0 = search (rules, made.2) in
    rw (p.1, p.2)
    (stopped (tables_of c.args.depot.now).names c.args.sheet.now _ _ _ c.loop-i.invariant (shown c.in-Some.line) (enumerate_source c.next.new.self).rest.now step.0 made.0 c.in_err-map_err.field-0.0 c.in_ok-judge_limit.ensures told (subst (λ k. Placed Plan (k + 1) made.0 c.in_err-map_err.field-0.0) step.1 at))

pub loop-i-preserved : goal.loop-i-preserved
loop-i-preserved g c =
    let step = c.in-Some.ensures.steps in
    let added = MatchResult-at_ok _ _ c.in_ok-map_err.field-0 (value_kept _ c.add_step-added.result c.map_err.result _ c.map_err.ensures.cases c.in_ok-map_err.was) c.add_step-added.ensures in
    rw step.2 (walk-on (tables_of c.args.depot.now).names c.args.sheet.now _ _ _ c.loop-i.invariant (shown c.in-Some.line) (enumerate_source c.next.new.self).rest.now step.0 _ added)

pub returns : goal.returns
returns g c =
    let none = c.in-None.ensures.steps in
    ended (tables_of c.args.depot.now).names c.args.sheet.now _ _ _ c.loop-i.invariant none.0.0 c.in_ok-judge_limit.ensures
