-- What holds of every plan sheet, and of every plan on a depot whose carrying is reflexive and transitive. Assumes nothing.
use Rattle.std.specs.Prelude.{◌≡◌, ℕ, true, ◌⊎◌, ◌↔◌, List}
use Rattle.sheets.specs.declared.faults.Fault.{Fault}
use Rattle.sheets.specs.declared.refusals.Refusal.{Refusal}
use Rattle.walkthroughs.specs.Depots.{Carrying, Depot, truth_of}
use Rattle.walkthroughs.specs.Firing.{start_of}
use Rattle.walkthroughs.specs.Runs.{Held}
use Rattle.walkthroughs.specs.Unpickings.{Passes}
use Rattle.plans.specs.Judging.{PlanAccepted, PlanFault}
use Rattle.plans.specs.Spelling.{PlanRead, PlanRefused}

-- A sheet fixes the plan: it spells one plan at the most, has one refusal at the most, and not both.
pub record SheetFixes (names : List (List ℕ)) : Type 0 where
  pub one_plan : (s : List ℕ) (steps other : List (List ℕ)) → PlanRead names s steps → PlanRead names s other → steps ≡ other
  pub one_refusal : (s : List ℕ) (n k : ℕ) (w v : Refusal) → PlanRefused names s n w → PlanRefused names s k v → (n ≡ k) × (w ≡ v)
  pub not_both : (s : List ℕ) (steps : List (List ℕ)) (n : ℕ) (w : Refusal) → PlanRead names s steps → PlanRefused names s n w → ⊥

-- A plan has one outcome on a depot: it is accepted, and then leaves the same facts standing each time, or it has one fault,
-- with its line and details, and not both.
pub record OneOutcome (d : Depot) (steps : List (List ℕ)) : Type 0 where
  pub some_outcome : ((left : Held) × PlanAccepted d steps left) ⊎ ((f : Fault) × PlanFault d steps f)
  pub one_end : (left other : Held) → PlanAccepted d steps left → PlanAccepted d steps other → left.stands ≡ other.stands
  pub one_fault : (f g : Fault) → PlanFault d steps f → PlanFault d steps g → f ≡ g
  pub not_both : (left : Held) (f : Fault) → PlanAccepted d steps left → PlanFault d steps f → ⊥

-- Every plan has one outcome on every such depot.
abbrev pub PlansHaveOneOutcome : Type 0
PlansHaveOneOutcome = (d : Depot) → Carrying d → (steps : List (List ℕ)) → OneOutcome d steps

-- A plan is accepted exactly if its steps pass one after the other from the start, and the goal is true at the end.
abbrev pub AcceptedPlansPass : Type 0
AcceptedPlansPass = (d : Depot) → Carrying d → (steps : List (List ℕ)) (left : Held) → PlanAccepted d steps left ↔ (Passes d (start_of d) steps left.stands × (truth_of d left.stands d.goal ≡ true))
