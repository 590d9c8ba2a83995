-- The law of whole runs. Assumes nothing.
use Rattle.std.proofs.Common.{◌≡◌, ℕ, not, List, [], ◌∷◌, ◌++◌, length, sym, refl, ◌∙◌, subst, inl, inr}
use Rattle.sheets.specs.declared.refusals.Refusal.TheVariants.{Disturbed}
use Rattle.walkthroughs.specs.Depots.{Depot, State, Carrying, Listed, part_of, reads, truth_of}
use Rattle.walkthroughs.specs.Disturbance.{move_at}
use Rattle.walkthroughs.specs.Firing.{Closed, after, start_of}
use Rattle.walkthroughs.specs.Laws.{DisturbedStepsTurn, RunsKeepTheLaw, StaysClosed}
use Rattle.walkthroughs.specs.Lists.{SameMoves}
use Rattle.walkthroughs.specs.Runs.{AllAccepted, Answer, Answered, Call, Held, Ran, Turned, accepted_steps, begun}
use Rattle.walkthroughs.specs.Runs.Answer.{accepted, refused, told}
use Rattle.walkthroughs.specs.Runs.Call.{look, step, truth}
use Rattle.walkthroughs.specs.Sets.{chosen}
use Rattle.walkthroughs.specs.Steps.{changed}
use Rattle.walkthroughs.specs.Unpickings.{Passes, singles}
use Rattle.walkthroughs.proofs.Firings.{closed_after, closed-start}
use Rattle.walkthroughs.proofs.Places.{listed-or_not, truth_past}
use Rattle.walkthroughs.proofs.Turning.{set-passes}
use Rattle.walkthroughs.proofs.Unpicks.{unpickings_pass}
use Rattle.walkthroughs.proofs.Walking.{never_both}

pub stays_closed : StaysClosed
stays_closed d law = (closed-start d law, closed_after d law)

-- one more call after a run
pub ran_more : (d : Depot) (h mid left : Held) (calls : List Call) (answers : List Answer) (c : Call) (a : Answer) → Ran d h calls answers mid → Answered d mid c a left → Ran d h (calls ++ c ∷ []) (answers ++ a ∷ []) left
ran_more d h mid left [] [] c a r x = (left, subst (λ (s : State). Answered d (record { stands = s }) c a left) r x, refl)
ran_more d h mid left [] (y ∷ answers) c a r x = absurd r
ran_more d h mid left (x' ∷ calls) [] c a r x = absurd r
ran_more d h mid left (x' ∷ calls) (y ∷ answers) c a (next, this, rest) x = (next, this, ran_more d next mid left calls answers c a rest x)

-- the accepted steps of a run pass, and end where the run ends
pub ran_passes : (d : Depot) (h : Held) (calls : List Call) (answers : List Answer) (left : Held) → Ran d h calls answers left → Passes d h.stands (accepted_steps calls answers) left.stands
ran_passes d h [] [] left r = r
ran_passes d h [] (a ∷ answers) left r = absurd r
ran_passes d h (c ∷ calls) [] left r = absurd r
ran_passes d h (step moves ∷ calls) (accepted n ∷ answers) left (next, this, rest) = (this.0, rw this.2 at (ran_passes d next calls answers left rest))
ran_passes d h (step moves ∷ calls) (told b ∷ answers) left (next, this, rest) = absurd this
ran_passes d h (step moves ∷ calls) (refused w ∷ answers) left (next, this, rest) = rw this.1 at (ran_passes d next calls answers left rest)
ran_passes d h (truth n ∷ calls) (accepted k ∷ answers) left (next, this, rest) = absurd this
ran_passes d h (truth n ∷ calls) (told b ∷ answers) left (next, this, rest) = rw this.2 at (ran_passes d next calls answers left rest)
ran_passes d h (truth n ∷ calls) (refused w ∷ answers) left (next, this, rest) = rw this.2 at (ran_passes d next calls answers left rest)
ran_passes d h (look n ∷ calls) (accepted k ∷ answers) left (next, this, rest) = absurd this
ran_passes d h (look n ∷ calls) (told b ∷ answers) left (next, this, rest) = rw this.2 at (ran_passes d next calls answers left rest)
ran_passes d h (look n ∷ calls) (refused w ∷ answers) left (next, this, rest) = rw this.2 at (ran_passes d next calls answers left rest)

passes-closed : (d : Depot) → Carrying d → (s t : State) (steps : List (List ℕ)) → Closed d s → Passes d s steps t → Closed d t
passes-closed d law s t [] closed p = rw p closed
passes-closed d law s t (moves ∷ steps) closed p = passes-closed d law (after d s moves) t steps (closed_after d law s moves closed) p.1

-- steps that pass are a run in which all are accepted
pub passes-sent : (d : Depot) (h left : Held) (steps : List (List ℕ)) → Passes d h.stands steps left.stands → AllAccepted d h steps left
passes-sent d h left [] p = record { answers = []; ran = p; each = tt }
passes-sent d h left (moves ∷ steps) p = first (passes-sent d (record { stands = after d h.stands moves }) left steps p.1)
  where
    first : AllAccepted d (record { stands = after d h.stands moves }) steps left → AllAccepted d h (moves ∷ steps) left
    first r = record { answers = accepted (changed d.facts h.stands (after d h.stands moves)) ∷ r.answers; ran = (record { stands = after d h.stands moves }, (p.0, refl, refl), r.ran); each = (tt, r.each) }

-- a formula that turns is listed
turned-listed : (d : Depot) (s t : State) (n : ℕ) → truth_of d t n ≡ not (truth_of d s n) → Listed n (length d.formulas)
turned-listed d s t n other = elim (listed-or_not n (length d.formulas)) [ inl k ↦ k | inr k ↦ absurd (never_both (truth_of d t n) (truth_of d s n) (truth_past d t n k ∙ sym (truth_past d s n k)) other) ]

pub turned_by : DisturbedStepsTurn
turned_by d law h moves set place part refusal order same =
    let end : Held = record { stands = after d h.stands (chosen set moves) } in
    let listed = turned-listed d h.stands (after d h.stands (chosen set moves)) (part_of d (move_at moves place) part) refusal.holds.otherwise in
    record { left = end; sent = passes-sent d h end (singles order) (set-passes d law h.stands moves set place part refusal order same); was = reads d h.stands (move_at moves place) part; told_before = (listed, refl, refl); told_after = (listed, sym refusal.holds.otherwise, refl) }

-- the last call of a run, and what was held before it
last-call : (d : Depot) (h left : Held) (calls : List Call) (answers : List Answer) (c : Call) (a : Answer) → Ran d h (calls ++ c ∷ []) (answers ++ a ∷ []) left → (before next : Held) × Answered d before c a next × (left.stands ≡ next.stands)
last-call d h left [] [] c a (next, this, rest) = (h, next, this, rest)
last-call d h left [] (x ∷ []) c a (next, this, rest) = absurd rest
last-call d h left [] (x ∷ y ∷ answers) c a (next, this, rest) = absurd rest
last-call d h left (x ∷ []) [] c a (next, this, rest) = absurd rest
last-call d h left (x ∷ y ∷ calls) [] c a (next, this, rest) = absurd rest
last-call d h left (x ∷ calls) (y ∷ answers) c a (next, this, rest) = last-call d next left calls answers c a rest

pub runs-keep_the_law : RunsKeepTheLaw
runs-keep_the_law d law calls answers left ran =
    record { closed = passes-closed d law (start_of d) left.stands (accepted_steps calls answers) (closed-start d law) passes; unpicked = λ steps u. passes-sent d (begun d) left steps (unpickings_pass d law (start_of d) left.stands (accepted_steps calls answers) steps passes u); turned = turned_so }
  where
    passes : Passes d (start_of d) (accepted_steps calls answers) left.stands
    passes = ran_passes d (begun d) calls answers left ran

    turned_so : (calls' : List Call) (answers' : List Answer) (moves : List ℕ) (set place part : ℕ) → calls ≡ calls' ++ step moves ∷ [] → answers ≡ answers' ++ refused (Disturbed set place part) ∷ [] → (order : List ℕ) → SameMoves order (chosen set moves) → Turned d left order (part_of d (move_at moves place) part)
    turned_so calls' answers' moves set place part c a order same = last (last-call d (begun d) left calls' answers' (step moves) (refused (Disturbed set place part)) (rw a at (rw c at ran)))
      where
        last : ((before next : Held) × Answered d before (step moves) (refused (Disturbed set place part)) next × (left.stands ≡ next.stands)) → Turned d left order (part_of d (move_at moves place) part)
        last (before, next, this, end) = turned_by d law left moves set place part (rw (end ∙ this.1) this.0) order same
