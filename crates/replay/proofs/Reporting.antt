-- Reporting on the trials of an input, one by one. Assumes nothing.
use Rattle.std.proofs.Common.{◌≡◌, ℕ, ◌<◌, List, [], ◌∷◌, ◌++◌, length, map, Option, Some, Result, Ok, Err, IfOk, inl, refl, sym, ap, subst, ◌∙◌, append_assoc, append-nil, arith}
use Rattle.depots.specs.AnyDepots.{AnyRead}
use Rattle.depots.specs.declared.any_depot.AnyDepot.{AnyDepot}
use Rattle.walkthroughs.specs.Runs.{Call}
use Rattle.walkthroughs.specs.declared.exchange.Answer.{Answer}
use Rattle.replay.specs.CallLines.{calls_of_lines, some_calls}
use Rattle.replay.specs.Replies.{replies}
use Rattle.replay.specs.Reports.{Report, Reports, Sent, Trial, TrialReport, TrialsOf, any_ruled}
use Rattle.replay.specs.Sections.{FirstTrial}
use Rattle.replay.proofs.Sectioned.{below_twice}

-- Whatever is printed of the trials that are left, all is printed with it.
abbrev pub GoesOn : List ℕ → List ℕ → List ℕ → Type 0
GoesOn s rest report = (ts : List Trial) (others : List ℕ) → TrialsOf rest ts → Reports ts others → Report s (report ++ others)

-- Nothing is printed yet.
pub begins : (s : List ℕ) → GoesOn s s []
begins s ts others trials reports = (ts, trials, reports)

-- No trial is left.
pub ends : (s rest report : List ℕ) → rest ≡ [] → GoesOn s rest report → Report s report
ends s rest report none goes = rw (append-nil report) at (goes [] [] none refl)

pub no_bytes : (bs : List ℕ) → length bs ≡ 0 → bs ≡ []
no_bytes [] none = refl
no_bytes (b ∷ bs) none = absurd (omega (arith, none))

-- A last trial is reported.
pub last_reported : (s rest report depot calls below : List ℕ) (told : List ℕ) → FirstTrial rest depot calls below → TrialReport depot calls told → below ≡ [] → GoesOn s rest report → GoesOn s below (report ++ told)
last_reported s rest report depot calls below told first tells none goes [] others trials reports =
    rw reports (rw (append-nil (report ++ told)) (goes (record { depot = depot; calls = calls } ∷ []) told (first.0, first.1, first.2, sym first.3 ∙ none) tells))
last_reported s rest report depot calls below told first tells none goes (t ∷ ts) others trials reports = absurd (omega (arith, trials.0, ap length none))

-- A trial with others below it is reported, and an empty line.
pub more_reported : (s rest report depot calls below : List ℕ) (told : List ℕ) → FirstTrial rest depot calls below → TrialReport depot calls told → 0 < length below → GoesOn s rest report → GoesOn s below ((report ++ told) ++ (10 ∷ []))
more_reported s rest report depot calls below told first tells some goes [] others trials reports = absurd (omega (arith, some, ap length trials))
more_reported s rest report depot calls below told first tells some goes (t ∷ ts) others trials reports =
    let all = goes (record { depot = depot; calls = calls } ∷ t ∷ ts) (told ++ (10 ∷ others)) (first.0, first.1, first.2, rw (sym first.3) trials) (told, others, tells, reports, refl) in
    rw (append_assoc (report ++ told) (10 ∷ []) others, append_assoc report told (10 ∷ others)) all

-- Less is below the first trial.
pub trial_shorter : (rest depot calls below : List ℕ) → FirstTrial rest depot calls below → length below < length rest
trial_shorter rest depot calls below first = omega (arith, ap length first.3, below_twice rest first.0)

-- What holds of a result's value holds of it in other words.
pub in_words : {X E : Type 0} (P Q : X → Type 0) (r : Result X E) → ((x : X) → P x → Q x) → IfOk r P → IfOk r Q
in_words P Q (Ok x) turns holds = turns x holds
in_words P Q (Err e) turns holds = holds

-- A depot sheet that was read, and the replies to the calls on it.
pub replied : (depot calls : List ℕ) (lines : List (Option Call)) (sent : List Call) (after : List (Option Answer)) (report : List ℕ) → lines ≡ calls_of_lines calls → sent ≡ some_calls lines → ((d : AnyDepot) × AnyRead depot d × (answers : List Answer) × Sent (any_ruled d) sent answers × (after ≡ map Some answers)) → report ≡ replies lines after → TrialReport depot calls report
replied depot calls lines sent after report written some ran told =
    inl (ran.0, ran.1, ran.2, subst (λ cs. Sent (any_ruled ran.0) cs ran.2) (some ∙ ap some_calls written) ran.3, told ∙ (ap (λ ls. replies ls after) written ∙ ap (replies (calls_of_lines calls)) ran.4))
