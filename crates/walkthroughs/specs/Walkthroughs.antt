-- A walkthrough that is under way, and how its calls answer. Assumes nothing.
use Rattle.std.specs.Prelude.{◌≡◌, Bool, true, false, Ok, Err, Result, MatchResult, is_none}
use Rattle.sheets.specs.declared.faults.Fault.{Fault}
use Rattle.sheets.specs.declared.refusals.Refusal.TheVariants.{NoGoal}
use Rattle.sheets.specs.Refusals.{unplaced}
use Rattle.depots.specs.Tables.{Tables}
use Rattle.walkthroughs.specs.declared.walkthrough.Walkthrough.{Walkthrough}
use Rattle.walkthroughs.specs.Firing.{start_of}
use Rattle.walkthroughs.specs.Marks.{standing}
use Rattle.walkthroughs.specs.Ruled.{ruled}
use Rattle.walkthroughs.specs.Runs.{Answer, Held}
use Rattle.walkthroughs.specs.Runs.Answer.{refused}

-- What a walkthrough holds.
abbrev pub held : Walkthrough → Held
held w = record { stands = standing w.marks }

-- A walkthrough is made at the start of a depot; an empty depot has none, and is refused.
abbrev pub Made : {F : Type 0} → (F → F → Bool) → Tables F → Result Walkthrough Fault → Type 0
Made carries t r = MatchResult r (λ w. (is_none t.goal ≡ false) × ((held w).stands ≡ start_of (ruled carries t))) (λ f. (is_none t.goal ≡ true) × (f ≡ unplaced NoGoal))

-- What a call hands back is the answer of which P holds.
abbrev pub Answers : {X : Type 0} → (X → Answer) → (Answer → Type 0) → Result X Fault → Type 0
Answers told P (Ok x) = P (told x)
Answers told P (Err f) = (f ≡ unplaced f.refusal) × P (refused f.refusal)
