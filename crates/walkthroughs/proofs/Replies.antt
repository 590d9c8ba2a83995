-- Every list of calls has one run, the computed one; so have the worked lines. Assumes nothing.
use Rattle.std.proofs.Common.{◌≡◌, ℕ, Bool, true, false, cond, List, [], ◌∷◌, map, length, get_or, drop, Some, None, Option, sym, refl, ap, ◌∙◌}
use Rattle.std.specs.List.{AllByRecursion}
use Rattle.std.proofs.lemmas.Bool.{cond_both, cond-false, cond-true, eqb-true, eq-eqb}
use Rattle.std.proofs.lemmas.Bool.Decides.{not_from_Decides}
use Rattle.sheets.specs.declared.refusals.Refusal.{Refusal}
use Rattle.sheets.specs.declared.refusals.Refusal.TheVariants.{UnknownNumber}
use Rattle.facts.specs.declared.plain.PlainFact.{PlainFact}
use Rattle.facts.specs.Plain.{plain_same}
use Rattle.facts.specs.Sight.{sight_carries}
use Rattle.facts.specs.Carrying.{sight_carries-refl, sight_carries-trans}
use Rattle.walkthroughs.specs.Depots.{Carrying, Depot, Listed, truth_of}
use Rattle.walkthroughs.specs.Examples.{depot_g, depot_q, depot_s, facts_g, facts_q, facts_s}
use Rattle.walkthroughs.specs.Firing.{start_of}
use Rattle.walkthroughs.specs.Judging.{answer_of, answers_of, is_listed, judge, leaves_of, left_by, step_answer, step_leaves}
use Rattle.walkthroughs.specs.Laws.{Judged, OneRun}
use Rattle.walkthroughs.specs.Runs.{Answer, Answered, Asked, Call, Held, Ran, begun}
use Rattle.walkthroughs.specs.Runs.Answer.{accepted, refused, told}
use Rattle.walkthroughs.specs.Runs.Call.{look, step, truth}
use Rattle.walkthroughs.specs.Worked.{IsRun, Row, Worked, WorkedRuns, expected, outcome, table}
use Rattle.walkthroughs.proofs.Among.{carrying_among}
use Rattle.walkthroughs.proofs.Faulty.{no_fault, one-refusal}
use Rattle.walkthroughs.proofs.Judged.{decides_listed, judged}

-- a question has its computed answer, and no other
asked : (k n : ℕ) (says : Bool) (h : Held) → Asked k n says h (cond (is_listed n k) (told says) (refused UnknownNumber)) h
asked k n says h = cond_both (is_listed n k) (told says) (refused UnknownNumber) (λ a. Asked k n says h a h) (λ yes'. ((decides_listed n k).0 yes', refl, refl)) (λ no'. (not_from_Decides (is_listed n k) (decides_listed n k) no', refl, refl))

asked-once : (k n : ℕ) (says : Bool) (h : Held) (a : Answer) (left : Held) → Asked k n says h a left → (a ≡ cond (is_listed n k) (told says) (refused UnknownNumber)) × (left.stands ≡ h.stands)
asked-once k n says h (accepted c) left x = absurd x
asked-once k n says h (told b) left x = (ap told x.1 ∙ sym (cond-true (is_listed n k) (told says) (refused UnknownNumber) ((decides_listed n k).1 x.0)), x.2)
asked-once k n says h (refused w) left x = (ap refused x.1 ∙ sym (cond-false (is_listed n k) (told says) (refused UnknownNumber) (unlisted (is_listed n k) (decides_listed n k).0)), x.2)
  where
    unlisted : (b : Bool) → (b ≡ true → Listed n k) → b ≡ false
    unlisted true f = absurd (x.0 (f refl))
    unlisted false f = refl

module _ (d : Depot) (law : Carrying d) where
  stepped : (h : Held) (moves : List ℕ) (o : Option Refusal) → Judged d h.stands moves o → Answered d h (step moves) (step_answer d h.stands moves o) (record { stands = step_leaves d h.stands moves o })
  stepped h moves None j = (j, refl, refl)
  stepped h moves (Some w) j = (j, refl)

  stepped-once : (h : Held) (moves : List ℕ) (o : Option Refusal) → Judged d h.stands moves o → (a : Answer) (left : Held) → Answered d h (step moves) a left → (a ≡ step_answer d h.stands moves o) × (left.stands ≡ step_leaves d h.stands moves o)
  stepped-once h moves None j (accepted n) left x = (ap accepted x.1, x.2)
  stepped-once h moves None j (told b) left x = absurd x
  stepped-once h moves None j (refused w) left x = absurd (no_fault d law h.stands moves j w x.0.holds)
  stepped-once h moves (Some w) j (accepted n) left x = absurd (no_fault d law h.stands moves x.0 w j.holds)
  stepped-once h moves (Some w) j (told b) left x = absurd x
  stepped-once h moves (Some w) j (refused v) left x = (ap refused (one-refusal d h.stands moves v w x.0 j), x.1)

  answered : (h : Held) (c : Call) → Answered d h c (answer_of d h.stands c) (record { stands = leaves_of d h.stands c })
  answered h (step moves) = stepped h moves (judge d h.stands moves) (judged d law h.stands moves)
  answered h (truth n) = asked (length d.formulas) n (truth_of d h.stands n) h
  answered h (look f) = asked d.facts f (h.stands f) h

  answered-once : (h : Held) (c : Call) (a : Answer) (left : Held) → Answered d h c a left → (a ≡ answer_of d h.stands c) × (left.stands ≡ leaves_of d h.stands c)
  answered-once h (step moves) a left x = stepped-once h moves (judge d h.stands moves) (judged d law h.stands moves) a left x
  answered-once h (truth n) a left x = asked-once (length d.formulas) n (truth_of d h.stands n) h a left x
  answered-once h (look f) a left x = asked-once d.facts f (h.stands f) h a left x

  runs : (h : Held) (calls : List Call) → Ran d h calls (answers_of d h.stands calls) (record { stands = left_by d h.stands calls })
  runs h [] = refl
  runs h (c ∷ calls) = (record { stands = leaves_of d h.stands c }, answered h c, runs (record { stands = leaves_of d h.stands c }) calls)

  runs-once : (h : Held) (calls : List Call) (answers : List Answer) (left : Held) → Ran d h calls answers left → (answers ≡ answers_of d h.stands calls) × (left.stands ≡ left_by d h.stands calls)
  runs-once h [] [] left r = (refl, r)
  runs-once h [] (a ∷ answers) left r = absurd r
  runs-once h (c ∷ calls) [] left r = absurd r
  runs-once h (c ∷ calls) (a ∷ answers) left (next, this, rest) = both (answered-once h c a next this) (runs-once next calls answers left rest)
    where
      both : (a ≡ answer_of d h.stands c) × (next.stands ≡ leaves_of d h.stands c) → (answers ≡ answers_of d next.stands calls) × (left.stands ≡ left_by d next.stands calls) → (a ∷ answers ≡ answers_of d h.stands (c ∷ calls)) × (left.stands ≡ left_by d h.stands (c ∷ calls))
      both p q = (ap (λ x. x ∷ answers) p.0 ∙ ap (λ l. answer_of d h.stands c ∷ l) (q.0 ∙ ap (λ s. answers_of d s calls) p.1), q.1 ∙ ap (λ s. left_by d s calls) p.1)

pub one-run : OneRun
one-run d law h calls = (runs d law h calls, runs-once d law h calls)

carrying_S : Carrying depot_s
carrying_S = carrying_among sight_carries facts_s sight_carries-refl sight_carries-trans depot_s refl refl

carrying_G : Carrying depot_g
carrying_G = carrying_among sight_carries facts_g sight_carries-refl sight_carries-trans depot_g refl refl

plain_onward : (a b c : PlainFact) → plain_same a b ≡ true → plain_same b c ≡ true → plain_same a c ≡ true
plain_onward a b c p q = eq-eqb a.matter c.matter (eqb-true a.matter b.matter p ∙ eqb-true b.matter c.matter q)

carrying_Q : Carrying depot_q
carrying_Q = carrying_among plain_same facts_q (λ a. eq-eqb a.matter a.matter refl) plain_onward depot_q refl refl

-- a line that comes out as it stands is a run
row_runs : (r : Row) → Carrying r.depot → outcome r ≡ expected r → IsRun r
row_runs r law e = (record { stands = left_by r.depot (start_of r.depot) r.calls }, rw (ap (λ x. x.0) e) at (runs r.depot law (begun r.depot) r.calls), ap (λ x. x.1) e)

rows_run : (rows : List Row) → AllByRecursion (λ r. Carrying r.depot) rows → map outcome rows ≡ map expected rows → AllByRecursion IsRun rows
rows_run [] laws e = tt
rows_run (r ∷ rows) laws e = (row_runs r laws.0 (ap (λ l. get_or l 0 (outcome r)) e), rows_run rows laws.1 (ap (drop 1) e))

pub worked_runs : Worked → WorkedRuns
worked_runs = rows_run table (carrying_S, (carrying_S, (carrying_S, (carrying_S, (carrying_S, (carrying_S, (carrying_S, (carrying_Q, (carrying_Q, (carrying_Q, (carrying_G, tt)))))))))))
