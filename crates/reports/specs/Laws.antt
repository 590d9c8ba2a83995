-- What holds of every report: that two sheets have one, and how long it can be. Assumes nothing.
use Rattle.std.specs.Prelude.{◌≡◌, ℕ, ◌^◌, ◌<◌, ◌≤◌, List, length, Some}
use Rattle.std.specs.List.{AllByRecursion}
use Rattle.sheets.specs.declared.faults.Fault.{Fault}
use Rattle.sheets.specs.Refusals.{details_of}
use Rattle.depots.specs.Kinds.{Meaning}
use Rattle.depots.specs.Spelling.{DepotRead}
use Rattle.depots.specs.Tables.{Tables}
use Rattle.walkthroughs.specs.Depots.{State}
use Rattle.plans.specs.Spelling.{PlanRead}
use Rattle.reports.specs.Accepted.{acceptance_report}
use Rattle.reports.specs.Checked.{Report}
use Rattle.reports.specs.Refused.{line_for, refusal_report}

-- Where both sheets are read, the report of an acceptance has 7,174 bytes at the most, whatever facts stand: 6 for 64 steps,
-- and 56 for each of 128 facts, whose text is of six names of 8 bytes and the stops between them.
abbrev pub AcceptancesFit : {F : Type 0} → Meaning F → Type 0
AcceptancesFit {F} m = (depot plan : List ℕ) (t : Tables F) (steps : List (List ℕ)) (s : State) → DepotRead m depot t → PlanRead t.names plan steps → length (acceptance_report (length steps) t.texts s) ≤ 7174

-- The report of a refusal has 360 bytes at the most, where the line that is shown has 240 at the most, as every line without
-- a fault of its own, and its numbers are a machine's, of 20 digits.
abbrev pub RefusalsFit : Type 0
RefusalsFit = (depot plan : List ℕ) (f : Fault) → f.line < 2 ^ 64 → AllByRecursion (λ n. n < 2 ^ 64) (details_of f.refusal) → ((text : List ℕ) → line_for depot plan f ≡ Some text → length text ≤ 240) → length (refusal_report depot plan f) ≤ 360

-- Two sheets have one report at the most, so that no two buffers can be left with different ones.
abbrev pub OneReport : Type 0
OneReport = (depot plan report other : List ℕ) → Report depot plan report → Report depot plan other → report ≡ other
