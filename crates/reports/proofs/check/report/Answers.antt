use Rattle.std.proofs.lemmas.Result.{IfOk-weaker}
use Rattle.reports.proofs.Reported.{any_told}
use Rattle.reports.proofs.check.report.Goals as goal

pub returns-in-Err : goal.returns-in-Err
returns-in-Err c = IfOk-weaker c.told.result _ _ (λ v is. any_told c.args.sheets.now.depot.now c.args.sheets.now.plan.now v.items c.in-Err.fault c.in-Err.ensures is) c.told.ensures
