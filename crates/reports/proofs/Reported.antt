-- What the parts of a check come to is the report on the two sheets. Assumes nothing.
use Rattle.std.proofs.Common.{◌≡◌, ◌≢◌, ℕ, ◌⊎◌, Bool, true, false, List, length, MatchBool, is_none, sym, ap, ◌∙◌, subst, inl, inr}
use Rattle.sheets.specs.declared.faults.Fault.{Fault}
use Rattle.sheets.specs.declared.refusals.Refusal.TheVariants.{NoGoal, NoMemory}
use Rattle.sheets.specs.Refusals.{unplaced}
use Rattle.facts.specs.Plain.{plain_same}
use Rattle.facts.specs.Sight.{sight_carries}
use Rattle.depots.specs.AnyDepots.{AnyTold, names_sight}
use Rattle.depots.specs.Kinds.{Meaning, plain_meaning, sight_meaning}
use Rattle.depots.specs.Spelling.{DepotRead, DepotTold}
use Rattle.depots.specs.Tables.{Tables}
use Rattle.depots.proofs.Finished.{read-has_goal}
use Rattle.walkthroughs.specs.Ruled.{ruled}
use Rattle.walkthroughs.specs.Runs.{Held}
use Rattle.plans.specs.Judging.{PlanAccepted, PlanFault}
use Rattle.plans.specs.Spelling.{PlanRead, PlanTold}
use Rattle.reports.specs.Accepted.{acceptance_report}
use Rattle.reports.specs.Checked.{Report, ReportOf}
use Rattle.reports.specs.Checked.ReportOf.{of_acceptance, of_depot, of_plan, of_run}
use Rattle.reports.specs.Refused.{refusal_report}

-- what is told of a refusal: memory was not wanting, and it is the refusal's report
abbrev pub Told : List ℕ → List ℕ → Fault → List ℕ → Type 0
Told depot plan f report = (f.refusal ≢ NoMemory) × (report ≡ refusal_report depot plan f)

-- that the depot has no goal, or what is the case where it has one
abbrev pub Unless : Bool → Fault → Type 0 → Type 0
Unless no_goal f P = ((no_goal ≡ true) × (f ≡ unplaced NoGoal)) ⊎ ((no_goal ≡ false) × P)

there : (no_goal : Bool) (f : Fault) (P : Type 0) → no_goal ≡ false → Unless no_goal f P → P
there no_goal f P is (inl none) = absurd (let e : true ≡ false = sym none.0 ∙ is in cc)
there no_goal f P is (inr some) = some.1

module _ {F : Type 0} (m : Meaning F) (carries : F → F → Bool) (depot plan report : List ℕ) where
  pub depot_told : (f : Fault) → DepotTold m depot f → Told depot plan f report → ReportOf m carries depot plan report
  depot_told f told is = subst (ReportOf m carries depot plan) (sym is.1) (of_depot f is.0 told)

  module _ (t : Tables F) (read : DepotRead m depot t) where
    pub plan_told : (f : Fault) → PlanTold t.names plan f → Told depot plan f report → ReportOf m carries depot plan report
    plan_told f told is = subst (ReportOf m carries depot plan) (sym is.1) (of_plan t f read is.0 told)

    module _ (steps : List (List ℕ)) (spelled : PlanRead t.names plan steps) where
      pub run_told : (f : Fault) → Unless (is_none t.goal) f (PlanFault (ruled carries t) steps f) → Told depot plan f report → ReportOf m carries depot plan report
      run_told f fault is = subst (ReportOf m carries depot plan) (sym is.1) (of_run t steps f read spelled (there (is_none t.goal) f _ (read-has_goal m depot t read) fault))

      pub accepted-told : (left : Held) (n : ℕ) → PlanAccepted (ruled carries t) steps left → n ≡ length steps → report ≡ acceptance_report n t.texts left.stands → ReportOf m carries depot plan report
      accepted-told left n accepted count is = subst (ReportOf m carries depot plan) (sym (is ∙ ap (λ k. acceptance_report k t.texts left.stands) count)) (of_acceptance t steps left read spelled accepted)

-- a depot sheet of either kind that is refused
pub any_told : (depot plan report : List ℕ) (f : Fault) → AnyTold depot f → Told depot plan f report → Report depot plan report
any_told depot plan report f = by_kind (names_sight depot)
  where
    by_kind : (sight : Bool) → MatchBool sight (DepotTold sight_meaning depot f) (DepotTold plain_meaning depot f) → Told depot plan f report → MatchBool sight (ReportOf sight_meaning sight_carries depot plan report) (ReportOf plain_meaning plain_same depot plan report)
    by_kind true told is = depot_told sight_meaning sight_carries depot plan report f told is
    by_kind false told is = depot_told plain_meaning plain_same depot plan report f told is
