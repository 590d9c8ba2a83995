use Rattle.std.proofs.Common.{sym, arith}
use Rattle.std.proofs.lemmas.Result.{err_from_is_err_and}
use Rattle.std.proofs.lemmas.Bool.{eqb-false}
use Rattle.formulas.proofs.Whole.{goes_further, refused_whole, size_begins}
use Rattle.formulas.proofs.reading.read.Goals as goal

pub returns-in_err-formula-clause-answer : goal.returns-in_err-formula-clause-answer
returns-in_err-formula-clause-answer c =
    let p = err_from_is_err_and c.from_residual.result c.from_residual.ensures.1 in
    rw (p.1, p.2) (refused_whole 8 c.args.text.now _ c.in_err-formula.ensures)

pub returns-then-is_empty-clause-short : goal.returns-then-is_empty-clause-short
returns-then-is_empty-clause-short c =
    omega (arith, size_begins _ _ _ _ c.in_ok-formula.ensures)

pub returns-clause-answer : goal.returns-clause-answer
returns-clause-answer c = goes_further _ _ _ _ c.in_ok-formula.ensures (eqb-false _ _ (sym c.if-is_empty.ensures))
