use Rattle.reports.proofs.Lengths.{plain-fits, refusals-fit, sight-fits}
use Rattle.reports.proofs.laws.reports_fit.Goals as goal

pub returns-clause-plain : goal.returns-clause-plain
returns-clause-plain c = plain-fits

pub returns-clause-sight : goal.returns-clause-sight
returns-clause-sight c = sight-fits

pub returns-clause-refused : goal.returns-clause-refused
returns-clause-refused c = refusals-fit
