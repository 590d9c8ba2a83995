use Rattle.sheets.specs.Lines.{lines_of}
use Rattle.sheets.proofs.Single.{one-refusal}
use Rattle.depots.specs.Kinds.{meaning_of}
use Rattle.depots.specs.Tables.{no_tables}
use Rattle.depots.proofs.Added.{spelled-one}
use Rattle.depots.proofs.laws.sheets_fix_the_answer.Goals as goal

pub returns : goal.returns
returns g c = record {
  one_depot = λ s t u a b. spelled-one (meaning_of g.K.Kind g.K.TextKind.reading_under) no_tables (lines_of s) t u a.spelled b.spelled;
  one_refusal = λ s n k w v a b. one-refusal a b;
  not_both = λ s t n w a b. a.faultless n w b.holds;
}
