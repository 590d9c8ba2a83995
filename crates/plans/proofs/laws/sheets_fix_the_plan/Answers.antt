use Rattle.sheets.specs.Lines.{lines_of}
use Rattle.sheets.proofs.Single.{one-refusal}
use Rattle.plans.proofs.Walk.{spelled-one}
use Rattle.plans.proofs.laws.sheets_fix_the_plan.Goals as goal

pub returns : goal.returns
returns c names = record {
  one_plan = λ s steps other a b. spelled-one names (lines_of s) steps other a.spelled b.spelled;
  one_refusal = λ s n k w v a b. one-refusal a b;
  not_both = λ s steps n w a b. a.faultless n w b.holds;
}
