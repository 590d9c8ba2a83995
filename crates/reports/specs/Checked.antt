-- The report on two sheets, and what is left in the buffer that it is written into. Assumes nothing.
use Rattle.std.specs.Prelude.{◌≡◌, ℕ, Bool, ◌<◌, ◌⊎◌, List, ◌++◌, length, drop, Result, MatchBool, MatchResult, ◌≢◌}
use Rattle.sheets.specs.declared.faults.Fault.{Fault}
use Rattle.sheets.specs.declared.refusals.Refusal.TheVariants.{BufferShort, NoMemory}
use Rattle.sheets.specs.Refusals.{unplaced}
use Rattle.facts.specs.Plain.{plain_same}
use Rattle.facts.specs.Sight.{sight_carries}
use Rattle.depots.specs.AnyDepots.{names_sight}
use Rattle.depots.specs.Kinds.{Meaning, plain_meaning, sight_meaning}
use Rattle.depots.specs.Spelling.{DepotRead, DepotTold}
use Rattle.depots.specs.Tables.{Tables}
use Rattle.walkthroughs.specs.Ruled.{ruled}
use Rattle.walkthroughs.specs.Runs.{Held}
use Rattle.plans.specs.Judging.{PlanAccepted, PlanFault}
use Rattle.plans.specs.Spelling.{PlanRead, PlanTold}
use Rattle.reports.specs.Accepted.{acceptance_report}
use Rattle.reports.specs.Refused.{refusal_report}

-- What two sheets come to, for a kind of fact with its carrying: the depot sheet is refused; it is read, and the plan sheet is
-- refused; both are read, and a step or the goal is refused; or the plan is accepted. Each with its report.
pub data ReportOf {F : Type 0} (m : Meaning F) (carries : F → F → Bool) (depot plan : List ℕ) : List ℕ → Type 0 where
  of_depot : (f : Fault) → f.refusal ≢ NoMemory → DepotTold m depot f → ReportOf m carries depot plan (refusal_report depot plan f)
  of_plan : (t : Tables F) (f : Fault) → DepotRead m depot t → f.refusal ≢ NoMemory → PlanTold t.names plan f → ReportOf m carries depot plan (refusal_report depot plan f)
  of_run : (t : Tables F) (steps : List (List ℕ)) (f : Fault) → DepotRead m depot t → PlanRead t.names plan steps → PlanFault (ruled carries t) steps f → ReportOf m carries depot plan (refusal_report depot plan f)
  of_acceptance : (t : Tables F) (steps : List (List ℕ)) (left : Held) → DepotRead m depot t → PlanRead t.names plan steps → PlanAccepted (ruled carries t) steps left → ReportOf m carries depot plan (acceptance_report (length steps) t.texts left.stands)

-- The report on two sheets: by the kind that line 1 of the depot sheet names.
abbrev pub Report : List ℕ → List ℕ → List ℕ → Type 0
Report depot plan report = MatchBool (names_sight depot) (ReportOf sight_meaning sight_carries depot plan report) (ReportOf plain_meaning plain_same depot plan report)

-- A report is written into a buffer: it stands at the front, the bytes after it stay, and its length is told. Else the buffer
-- stays: it is shorter than the report, or memory was wanting.
abbrev pub Checked : List ℕ → List ℕ → List ℕ → List ℕ → Result ℕ Fault → Type 0
Checked depot plan before after result =
    MatchResult result
    (λ n. (report : List ℕ) × Report depot plan report × (n ≡ length report) × (after ≡ report ++ drop n before))
    (λ f. (after ≡ before) × (f ≡ unplaced f.refusal) × ((f.refusal ≡ NoMemory) ⊎ ((f.refusal ≡ BufferShort) × ((report : List ℕ) × Report depot plan report × (length before < length report)))))
