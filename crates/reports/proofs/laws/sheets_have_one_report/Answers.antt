use Rattle.reports.proofs.OneReport.{one_report}
use Rattle.reports.proofs.laws.sheets_have_one_report.Goals as goal

pub returns : goal.returns
returns c = one_report
