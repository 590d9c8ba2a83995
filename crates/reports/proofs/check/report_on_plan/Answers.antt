use Rattle.std.proofs.Common.{length, sym, ap, ◌∙◌}
use Rattle.std.proofs.lemmas.List.{length-map}
use Rattle.std.proofs.lemmas.Result.{IfOk-weaker}
use Rattle.depots.specs.Kinds.{meaning_of}
use Rattle.depots.specs.Tables.{tables_of}
use Rattle.walkthroughs.specs.Walkthroughs.{held}
use Rattle.plans.specs.Plans.{moves_of, steps_of}
use Rattle.reports.proofs.Reported.{accepted-told, plan_told, run_told}
use Rattle.reports.proofs.check.report_on_plan.Goals as goal

pub returns-in-Err : goal.returns-in-Err
returns-in-Err g c = IfOk-weaker c.told.result _ _ (λ v is. plan_told (meaning_of g.K.Kind g.K.TextKind.reading_under) g.K.Kind.carrying c.args.sheets.now.depot.now c.args.sheets.now.plan.now v.items (tables_of c.args.depot.now) c.requires c.in-Err.fault c.in-Err.ensures is) c.told.ensures

pub returns-in-Ok-judge_plan : goal.returns-in-Ok-judge_plan
returns-in-Ok-judge_plan g c = IfOk-weaker c.acceptance_report.result _ _ (λ v is. accepted-told (meaning_of g.K.Kind g.K.TextKind.reading_under) g.K.Kind.carrying c.args.sheets.now.depot.now c.args.sheets.now.plan.now v.items (tables_of c.args.depot.now) c.requires (steps_of c.in-Ok.plan) c.in-Ok.ensures (held c.in-Ok-judge_plan.walkthrough) (length c.steps.result.now) c.in-Ok-judge_plan.ensures.1 (sym (length-map c.steps.result.now moves_of) ∙ ap length c.steps.ensures) is) c.acceptance_report.ensures

pub returns : goal.returns
returns g c = IfOk-weaker c.told-in-Err-judge_plan.result _ _ (λ v is. run_told (meaning_of g.K.Kind g.K.TextKind.reading_under) g.K.Kind.carrying c.args.sheets.now.depot.now c.args.sheets.now.plan.now v.items (tables_of c.args.depot.now) c.requires (steps_of c.in-Ok.plan) c.in-Ok.ensures c.in-Err-judge_plan.fault c.in-Err-judge_plan.ensures is) c.told-in-Err-judge_plan.ensures
