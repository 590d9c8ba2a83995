-- A plan ends in one way. Assumes nothing.
use Rattle.std.proofs.Common.{◌≡◌, ℕ, zero, suc, ◌+◌, ◌-◌, ◌⊎◌, List, [], ◌∷◌, length, take, Some, None, Option, refl, sym, ap, ◌∙◌, subst, inl, inr, arith}
use Rattle.std.specs.List.{slice_get}
use Rattle.std.proofs.lemmas.Bool.{both_ways, cases_Bool}
use Rattle.std.proofs.lemmas.Option.{none-some, same_Some}
use Rattle.sheets.specs.declared.faults.Fault.{Fault}
use Rattle.sheets.specs.declared.faults.Sheet.{Sheet}
use Rattle.sheets.specs.declared.faults.Sheet.TheVariants.{Plan}
use Rattle.sheets.specs.declared.refusals.Refusal.{Refusal}
use Rattle.sheets.specs.declared.refusals.Refusal.TheVariants.{GoalFalse}
use Rattle.walkthroughs.specs.Depots.{Carrying, Depot, State, truth_of}
use Rattle.walkthroughs.specs.Firing.{after, start_of}
use Rattle.walkthroughs.specs.Laws.{Judged}
use Rattle.walkthroughs.specs.Judging.{judge}
use Rattle.walkthroughs.specs.Runs.{Held, begun}
use Rattle.walkthroughs.specs.Steps.{Accepted, StepRefused}
use Rattle.walkthroughs.specs.Unpickings.{Passes}
use Rattle.walkthroughs.proofs.Faulty.{no_fault, one-refusal}
use Rattle.walkthroughs.proofs.Judged.{judged}
use Rattle.plans.specs.Judging.{Passed, PlanAccepted, PlanFault, StoppedAt}
use Rattle.plans.specs.Laws.{AcceptedPlansPass, PlansHaveOneOutcome}
use Rattle.plans.proofs.Passing.{passed, sent-passes, stopped}

-- a fault by its parts, and two that have the same
abbrev fault : Option Sheet → ℕ → Refusal → Fault
fault sheet line w = record { sheet = sheet; line = line; refusal = w }

pub same_fault : (f g : Fault) → f.sheet ≡ g.sheet → f.line ≡ g.line → f.refusal ≡ g.refusal → f ≡ g
same_fault f g on at for = ap (λ s. fault s f.line f.refusal) on ∙ ap (λ n. fault g.sheet n f.refusal) at ∙ ap (fault g.sheet g.line) for

module _ (d : Depot) where
  -- the first i steps pass, and the next is refused
  abbrev Stops : State → List (List ℕ) → ℕ → Refusal → Type 0
  Stops s [] i w = ⊥
  Stops s (moves ∷ steps) zero w = StepRefused d s moves w
  Stops s (moves ∷ steps) (suc i) w = Accepted d s moves × Stops (after d s moves) steps i w

  -- the same, by what the first i steps leave
  record Stop (s : State) (steps : List (List ℕ)) (i : ℕ) (w : Refusal) : Type 0 where
    moves : List ℕ
    left : State
    here : slice_get steps i ≡ Some moves
    before : Passes d s (take i steps) left
    refused_there : StepRefused d left moves w

  stops_at : (s : State) (steps : List (List ℕ)) (i : ℕ) (w : Refusal) → Stop s steps i w → Stops s steps i w
  stops_at s [] i w stop = absurd (none-some stop.moves stop.here)
  stops_at s (first ∷ steps) zero w stop = rw (same_Some first stop.moves stop.here, sym stop.before) stop.refused_there
  stops_at s (first ∷ steps) (suc i) w stop = (stop.before.0, stops_at (after d s first) steps i w (record { moves = stop.moves; left = stop.left; here = stop.here; before = stop.before.1; refused_there = stop.refused_there }))

  stop-of : (s : State) (steps : List (List ℕ)) (i : ℕ) (w : Refusal) → Stops s steps i w → Stop s steps i w
  stop-of s [] i w stops = absurd stops
  stop-of s (first ∷ steps) zero w stops = record { moves = first; left = s; here = refl; before = refl; refused_there = stops }
  stop-of s (first ∷ steps) (suc i) w stops = let next = stop-of (after d s first) steps i w stops.1 in record { moves = next.moves; left = next.left; here = next.here; before = (stops.0, next.before); refused_there = next.refused_there }

  -- either all pass or one is the first that is refused
  abbrev Ends : State → List (List ℕ) → Type 0
  Ends s steps = ((t : State) × Passes d s steps t) ⊎ ((i : ℕ) × (w : Refusal) × Stops s steps i w)

  -- steps that pass leave one state
  passes_once : (s t u : State) (steps : List (List ℕ)) → Passes d s steps t → Passes d s steps u → t ≡ u
  passes_once s t u [] p q = p ∙ sym q
  passes_once s t u (moves ∷ steps) p q = passes_once (after d s moves) t u steps p.1 q.1

  -- what a plan that was stopped at a line comes to, step by step
  stopped-stops : (steps : List (List ℕ)) (line : ℕ) (w : Refusal) → StoppedAt d steps line w → (i : ℕ) × (line ≡ suc i) × Stops (start_of d) steps i w
  stopped-stops steps zero w stop = absurd (none-some stop.moves stop.here)
  stopped-stops steps (suc i) w stop =
      let before : suc i - 1 ≡ i = omega arith in
      (i, refl, stops_at (start_of d) steps i w (record { moves = stop.moves; left = stop.left.stands; here = stop.here; before = subst (λ k. Passes d (start_of d) (take k steps) stop.left.stands) before (sent-passes d (begun d) stop.left (take (suc i - 1) steps) stop.sent); refused_there = stop.refused_there }))

  -- the steps of a plan that were all sent pass
  accepted-passes : (steps : List (List ℕ)) (left : Held) → Passed d steps left → Passes d (start_of d) steps left.stands
  accepted-passes steps left a = sent-passes d (begun d) left steps a.sent

  module _ (law : Carrying d) where
    -- every list of steps ends so
    ends : (s : State) (steps : List (List ℕ)) → Ends s steps
    ends s [] = inl (s, refl)
    ends s (moves ∷ steps) = at (judge d s moves) (judged d law s moves) (ends (after d s moves) steps)
      where
        at : (o : Option Refusal) → Judged d s moves o → Ends (after d s moves) steps → Ends s (moves ∷ steps)
        at None can (inl (t, p)) = inl (t, (can, p))
        at None can (inr (i, w, stops)) = inr (suc i, w, (can, stops))
        at (Some w) stops later = inr (zero, w, stops)

    -- where all pass none is refused
    passes-stop : (s t : State) (steps : List (List ℕ)) (i : ℕ) (w : Refusal) → Passes d s steps t → Stops s steps i w → ⊥
    passes-stop s t [] i w p stops = stops
    passes-stop s t (moves ∷ steps) zero w p stops = no_fault d law s moves p.0 w stops.holds
    passes-stop s t (moves ∷ steps) (suc i) w p stops = passes-stop (after d s moves) t steps i w p.1 stops.1

    -- there is one first step that is refused, and one refusal of it
    stops_once : (s : State) (steps : List (List ℕ)) (i k : ℕ) (w v : Refusal) → Stops s steps i w → Stops s steps k v → (i ≡ k) × (w ≡ v)
    stops_once s [] i k w v a b = absurd a
    stops_once s (moves ∷ steps) zero zero w v a b = (refl, one-refusal d s moves w v a b)
    stops_once s (moves ∷ steps) zero (suc k) w v a b = absurd (no_fault d law s moves b.0 w a.holds)
    stops_once s (moves ∷ steps) (suc i) zero w v a b = absurd (no_fault d law s moves a.0 v b.holds)
    stops_once s (moves ∷ steps) (suc i) (suc k) w v a b = let same = stops_once (after d s moves) steps i k w v a.1 b.1 in (ap suc same.0, same.1)

    module _ (steps : List (List ℕ)) where
      some-outcome : Ends (start_of d) steps → ((left : Held) × PlanAccepted d steps left) ⊎ ((f : Fault) × PlanFault d steps f)
      some-outcome (inl (t, p)) = elim (cases_Bool (truth_of d t d.goal)) [ inl yes' ↦ inl (record { stands = t }, (all, yes')) | inr no' ↦ inr (fault (Some Plan) (length steps) GoalFalse, (refl, inr ((record { stands = t }, all, no'), refl, refl))) ]
        where
          all : Passed d steps (record { stands = t })
          all = passed d law steps (record { stands = t }) p
      some-outcome (inr (i, w, stops)) =
          let s = stop-of (start_of d) steps i w stops in
          inr (fault (Some Plan) (i + 1) w, (refl, inl (stopped d law steps (record { stands = s.left }) i s.moves w s.here s.before s.refused_there)))

      never-stopped : (left : Held) (line : ℕ) (w : Refusal) → Passed d steps left → StoppedAt d steps line w → ⊥
      never-stopped left line w all stop = let at = stopped-stops steps line w stop in passes-stop (start_of d) left.stands steps at.0 w (accepted-passes steps left all) at.2

      one-end : (left other : Held) → Passed d steps left → Passed d steps other → left.stands ≡ other.stands
      one-end left other a b = passes_once (start_of d) left.stands other.stands steps (accepted-passes steps left a) (accepted-passes steps other b)

      one-fault : (f g : Fault) → PlanFault d steps f → PlanFault d steps g → f ≡ g
      one-fault f g (on, inl a) (also, inl b) =
          let p = stopped-stops steps f.line f.refusal a in
          let q = stopped-stops steps g.line g.refusal b in
          let same = stops_once (start_of d) steps p.0 q.0 f.refusal g.refusal p.2 q.2 in
          same_fault f g (on ∙ sym also) (p.1 ∙ ap suc same.0 ∙ sym q.1) same.1
      one-fault f g (on, inl a) (also, inr b) = absurd (never-stopped b.0.0 f.line f.refusal b.0.1 a)
      one-fault f g (on, inr a) (also, inl b) = absurd (never-stopped a.0.0 g.line g.refusal a.0.1 b)
      one-fault f g (on, inr a) (also, inr b) = same_fault f g (on ∙ sym also) (a.1 ∙ sym b.1) (a.2 ∙ sym b.2)

      not-both : (left : Held) (f : Fault) → PlanAccepted d steps left → PlanFault d steps f → ⊥
      not-both left f a (on, inl stop) = never-stopped left f.line f.refusal a.0 stop
      not-both left f a (on, inr missed) = both_ways (truth_of d left.stands d.goal) (ap (λ s. truth_of d s d.goal) (one-end left missed.0.0 a.0 missed.0.1) ∙ missed.0.2) a.1

pub one_outcome : PlansHaveOneOutcome
one_outcome d law steps = record {
  some_outcome = some-outcome d law steps (ends d law (start_of d) steps);
  one_end = λ left other a b. one-end d law steps left other a.0 b.0;
  one_fault = one-fault d law steps;
  not_both = not-both d law steps;
}

pub accepted_plans-pass : AcceptedPlansPass
accepted_plans-pass d law steps left = (λ a. (accepted-passes d steps left a.0, a.1), λ p. (passed d law steps left p.0, p.1))
