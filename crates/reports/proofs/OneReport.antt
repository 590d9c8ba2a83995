-- Two sheets have one report at the most. Assumes nothing.
use Rattle.std.proofs.Common.{◌≡◌, ◌≢◌, ℕ, ◌⊎◌, Bool, true, false, List, length, Some, MatchBool, refl, sym, ap, ◌∙◌, subst, inl, inr, rules}
use Rattle.sheets.specs.declared.faults.Fault.{Fault}
use Rattle.sheets.specs.declared.faults.Sheet.{Sheet}
use Rattle.sheets.specs.declared.faults.Sheet.TheVariants.{Depot, Plan}
use Rattle.sheets.specs.declared.refusals.Refusal.{Refusal}
use Rattle.sheets.specs.declared.refusals.Refusal.TheVariants.{NoMemory}
use Rattle.sheets.specs.Lines.{lines_of}
use Rattle.sheets.proofs.Single.{one-refusal}
use Rattle.facts.specs.declared.plain.PlainFact.{PlainFact}
use Rattle.facts.specs.Carrying.{sight_carries-refl, sight_carries-trans}
use Rattle.facts.specs.Plain.{plain_same}
use Rattle.facts.specs.Sight.{sight_carries}
use Rattle.depots.specs.AnyDepots.{names_sight}
use Rattle.depots.specs.Kinds.{Meaning, plain_meaning, sight_meaning}
use Rattle.depots.specs.Spelling.{DepotRead, DepotRefused}
use Rattle.depots.specs.Tables.{Tables, no_tables}
use Rattle.depots.proofs.Added.{spelled-one}
use Rattle.walkthroughs.specs.Ruled.{ruled}
use Rattle.walkthroughs.specs.Runs.{Held}
use Rattle.walkthroughs.proofs.Among.{carrying_among}
use Rattle.plans.specs.Judging.{PlanAccepted, PlanFault}
use Rattle.plans.specs.Laws.{OneOutcome}
use Rattle.plans.specs.Spelling.{PlanRead, PlanRefused}
use Rattle.plans.proofs.Ends.{one_outcome, same_fault}
use Rattle.plans.proofs.Walk as plans
use Rattle.reports.specs.Accepted.{acceptance_report}
use Rattle.reports.specs.Checked.{ReportOf}
use Rattle.reports.specs.Checked.ReportOf.{of_acceptance, of_depot, of_plan, of_run}
use Rattle.reports.specs.Laws.{OneReport}
use Rattle.reports.specs.Refused.{refusal_report}

-- a sheet is refused at the line of a fault, for its reason
abbrev Refused : Sheet → (ℕ → Refusal → Type 0) → Fault → Type 0
Refused sheet At f = (f.sheet ≡ Some sheet) × At f.line f.refusal

-- that memory was wanting, or that a sheet is refused, where memory was not wanting
refused-told : (sheet : Sheet) (At : ℕ → Refusal → Type 0) (f : Fault) (Unread : Type 0) → f.refusal ≢ NoMemory → (Unread → f.refusal ≡ NoMemory) → Unread ⊎ Refused sheet At f → Refused sheet At f
refused-told sheet At f Unread other wanting (inl none) = absurd (other (wanting none))
refused-told sheet At f Unread other wanting (inr at) = at

module _ {F : Type 0} (m : Meaning F) (carries : F → F → Bool) (itself : (f : F) → carries f f ≡ true) (onward : (f g h : F) → carries f g ≡ true → carries g h ≡ true → carries f h ≡ true) (depot plan : List ℕ) where
  -- a report that tells a fault of some sort
  record Tells (Of : Fault → Type 0) (report : List ℕ) : Type 0 where
    fault : Fault
    of : Of fault
    is : report ≡ refusal_report depot plan fault

  -- the report on a plan that is read
  abbrev OnSteps : Tables F → List (List ℕ) → List ℕ → Type 0
  OnSteps t steps report = Tells (PlanFault (ruled carries t) steps) report ⊎ ((left : Held) × PlanAccepted (ruled carries t) steps left × (report ≡ acceptance_report (length steps) t.texts left.stands))

  -- the report on a plan sheet, for a depot that is read
  abbrev OnPlan : Tables F → List ℕ → Type 0
  OnPlan t report = Tells (Refused Plan (PlanRefused t.names plan)) report ⊎ ((steps : List (List ℕ)) × PlanRead t.names plan steps × OnSteps t steps report)

  -- the report on two sheets
  abbrev OnDepot : List ℕ → Type 0
  OnDepot report = Tells (Refused Depot (DepotRefused m depot)) report ⊎ ((t : Tables F) × DepotRead m depot t × OnPlan t report)

  sorted : (report : List ℕ) → ReportOf m carries depot plan report → OnDepot report
  sorted report (of_depot f other told) = inl (record { fault = f; of = refused-told Depot (DepotRefused m depot) f _ other (λ none. none.2) told; is = refl })
  sorted report (of_plan t f read other told) = inr (t, read, inl (record { fault = f; of = refused-told Plan (PlanRefused t.names plan) f _ other (λ none. none.2) told; is = refl }))
  sorted report (of_run t steps f read spelled fault) = inr (t, read, inr (steps, spelled, inl (record { fault = f; of = fault; is = refl })))
  sorted report (of_acceptance t steps left read spelled accepted) = inr (t, read, inr (steps, spelled, inr (left, accepted, refl)))

  module _ (a b : List ℕ) where
    same_told : (f g : Fault) → a ≡ refusal_report depot plan f → b ≡ refusal_report depot plan g → f ≡ g → a ≡ b
    same_told f g p q same = p ∙ ap (refusal_report depot plan) same ∙ sym q

    one-on_steps : (t : Tables F) (steps : List (List ℕ)) → OneOutcome (ruled carries t) steps → OnSteps t steps a → OnSteps t steps b → a ≡ b
    one-on_steps t steps one (inl p) (inl q) = same_told p.fault q.fault p.is q.is (one.one_fault p.fault q.fault p.of q.of)
    one-on_steps t steps one (inl p) (inr q) = absurd (one.not_both q.0 p.fault q.1 p.of)
    one-on_steps t steps one (inr p) (inl q) = absurd (one.not_both p.0 q.fault p.1 q.of)
    one-on_steps t steps one (inr p) (inr q) = p.2 ∙ ap (acceptance_report (length steps) t.texts) (one.one_end p.0 q.0 p.1 q.1) ∙ sym q.2

    one-on_plan : (t : Tables F) → OnPlan t a → OnPlan t b → a ≡ b
    one-on_plan t (inl p) (inl q) = let at = one-refusal p.of.1 q.of.1 in same_told p.fault q.fault p.is q.is (same_fault p.fault q.fault (p.of.0 ∙ sym q.of.0) at.0 at.1)
    one-on_plan t (inl p) (inr q) = absurd (q.1.faultless p.fault.line p.fault.refusal p.of.1.holds)
    one-on_plan t (inr p) (inl q) = absurd (p.1.faultless q.fault.line q.fault.refusal q.of.1.holds)
    one-on_plan t (inr p) (inr q) =
        one-on_steps t q.0 (one_outcome (ruled carries t) (carrying_among carries t.facts itself onward (ruled carries t) refl refl) q.0) (subst (λ steps. OnSteps t steps a) (plans.spelled-one t.names (lines_of plan) p.0 q.0 p.1.spelled q.1.spelled) p.2) q.2

    one-on_depot : OnDepot a → OnDepot b → a ≡ b
    one-on_depot (inl p) (inl q) = let at = one-refusal p.of.1 q.of.1 in same_told p.fault q.fault p.is q.is (same_fault p.fault q.fault (p.of.0 ∙ sym q.of.0) at.0 at.1)
    one-on_depot (inl p) (inr q) = absurd (q.1.faultless p.fault.line p.fault.refusal p.of.1.holds)
    one-on_depot (inr p) (inl q) = absurd (p.1.faultless q.fault.line q.fault.refusal q.of.1.holds)
    one-on_depot (inr p) (inr q) = one-on_plan q.0 (subst (λ t. OnPlan t a) (spelled-one m no_tables (lines_of depot) p.0 q.0 p.1.spelled q.1.spelled) p.2) q.2

    one_report_of : ReportOf m carries depot plan a → ReportOf m carries depot plan b → a ≡ b
    one_report_of p q = one-on_depot (sorted a p) (sorted b q)

plain_itself : (f : PlainFact) → plain_same f f ≡ true
plain_itself f = search rules

plain_onward : (f g h : PlainFact) → plain_same f g ≡ true → plain_same g h ≡ true → plain_same f h ≡ true
plain_onward f g h p q = search rules

pub one_report : OneReport
one_report depot plan a b = by_kind (names_sight depot)
  where
    by_kind : (sight : Bool) → MatchBool sight (ReportOf sight_meaning sight_carries depot plan a) (ReportOf plain_meaning plain_same depot plan a) → MatchBool sight (ReportOf sight_meaning sight_carries depot plan b) (ReportOf plain_meaning plain_same depot plan b) → a ≡ b
    by_kind true p q = one_report_of sight_meaning sight_carries sight_carries-refl sight_carries-trans depot plan a b p q
    by_kind false p q = one_report_of plain_meaning plain_same plain_itself plain_onward depot plan a b p q
