use Rattle.std.proofs.Common.{◌<◌, ◌-◌, length, take, drop, arith, rules, tests}
use Rattle.std.proofs.lemmas.Result.{err_from_is_err_and}
use Rattle.std.proofs.lemmas.Grind.{common_steps}
use Rattle.formulas.proofs.Exits.{fact_answers, refused_turn, refused_bracket}
use Rattle.formulas.proofs.InBrackets.{not_read, neither, one_kept, all_kept}
use Rattle.formulas.proofs.Steps.{turned, bracketed, no_formulas}
use Rattle.formulas.proofs.Trees.{shape_of_not, shape_of_all}
use Rattle.formulas.proofs.reader.+brackets_formula.Goals as goal

pub brackets-returns-in_err-one : goal.brackets-returns-in_err-one
brackets-returns-in_err-one t c =
    let p = err_from_is_err_and c.from_residual.result c.from_residual.ensures.1 in
    rw (p.1, p.2) (not_read c.loop-all.invariant.onward _ c.in_err-one.ensures)

pub brackets-loop-all-preserved : goal.brackets-loop-all-preserved
brackets-loop-all-preserved t c =
    one_kept c.loop-all.invariant c.in_ok-one.one c.in_ok-one.after.now c.in_ok-one.ensures _ _ (λ still. search (rules, tests)) _ (grind (arith, common_steps))

pub brackets-returns-in-41 : goal.brackets-returns-in-41
brackets-returns-in-41 t c =
    all_kept c.loop-all.invariant c.in_ok-one.one c.in_ok-one.after.now c.in_ok-one.ensures _ _ (λ still. search (rules, tests)) _ (grind (arith, common_steps)) c.if-kept.true

pub brackets-returns-in_default : goal.brackets-returns-in_default
brackets-returns-in_default t c =
    neither c.loop-all.invariant.onward c.in_ok-one.one c.in_ok-one.after.now c.in_ok-one.ensures (λ rest e. search rules) (λ rest e. search rules)

pub formula-returns-in_err-inner-in-33 : goal.formula-returns-in_err-inner-in-33
formula-returns-in_err-inner-in-33 t c =
    let p = err_from_is_err_and c.from_residual-in_err-inner-in-33.result c.from_residual-in_err-inner-in-33.ensures.1 in
    let deep : 0 < c.args.depth = omega (arith, c.if-depth-eq0.false) in
    rw (p.1, p.2) (refused_turn c.args.depth c.args.text.now (take (length c.args.text.now - 1) (drop 1 c.args.text.now)) _ deep (grind (arith, common_steps)) c.in_err-inner-in-33.ensures)

pub formula-returns-in_ok-new-in-33 : goal.formula-returns-in_ok-new-in-33
formula-returns-in_ok-new-in-33 t c =
    let deep : 0 < c.args.depth = omega (arith, c.if-depth-eq0.false) in
    rw (shape_of_not (λ l. l.now) c.in_ok-new-in-33.field-0, c.in_ok-new-in-33.ensures.ok) (turned _ _ _ deep (grind (arith, common_steps)) _ _ c.in_ok-inner-in-33.ensures)

pub formula-returns-in-40 : goal.formula-returns-in-40
formula-returns-in-40 t c =
    let deep : 0 < c.args.depth = omega (arith, c.if-depth-eq0.false) in
    rw (shape_of_all (λ l. l.now) c.new.result, c.new.ensures.items) (no_formulas _ _ _ deep (grind (arith, common_steps)))

pub formula-returns-in_err-inner-in-40-2 : goal.formula-returns-in_err-inner-in-40-2
formula-returns-in_err-inner-in-40-2 t c =
    let p = err_from_is_err_and c.from_residual.result c.from_residual.ensures.1 in
    let deep : 0 < c.args.depth = omega (arith, c.if-depth-eq0.false) in
    rw (p.1, p.2) (refused_bracket c.args.depth c.args.text.now (take (length c.args.text.now - 1) (drop 1 c.args.text.now)) _ deep (grind (arith, common_steps)) (λ rest e. grind (arith, common_steps)) c.in_err-inner-in-40-2.ensures)

pub formula-returns-in_ok-inner-in-40-2 : goal.formula-returns-in_ok-inner-in-40-2
formula-returns-in_ok-inner-in-40-2 t c =
    let deep : 0 < c.args.depth = omega (arith, c.if-depth-eq0.false) in
    rw (shape_of_all (λ l. l.now) c.in_ok-inner-in-40-2.inner) (bracketed _ _ _ deep (grind (arith, common_steps)) _ _ c.in_ok-inner-in-40-2.ensures)

pub formula-returns-in_default : goal.formula-returns-in_default
formula-returns-in_default t c =
    fact_answers c.args.depth c.args.text.now c.fact-in_default.result (λ rest e. search rules) (λ rest e. search rules) c.fact-in_default.ensures
