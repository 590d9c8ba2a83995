-- The report on an input. Assumes nothing.
use Rattle.std.specs.Prelude.{◌≡◌, ℕ, ◌<◌, ◌≢◌, ◌⊎◌, List, [], ◌∷◌, ◌++◌, length, map, Some}
use Rattle.facts.specs.Plain.{plain_same}
use Rattle.facts.specs.Sight.{sight_carries}
use Rattle.sheets.specs.declared.faults.Fault.{Fault}
use Rattle.sheets.specs.declared.refusals.Refusal.TheVariants.{NoMemory}
use Rattle.depots.specs.declared.any_depot.AnyDepot.{AnyDepot}
use Rattle.depots.specs.declared.any_depot.AnyDepot.TheVariants.{Plain, Sight}
use Rattle.depots.specs.AnyDepots.{AnyRead, AnyTold}
use Rattle.depots.specs.Tables.{tables_of}
use Rattle.reports.specs.Refused.{refusal_report}
use Rattle.walkthroughs.specs.declared.exchange.Answer.{Answer}
use Rattle.walkthroughs.specs.Depots.{Depot}
use Rattle.walkthroughs.specs.Exchanges.{answer_of}
use Rattle.walkthroughs.specs.Ruled.{ruled}
use Rattle.walkthroughs.specs.Runs.{Call, Held, Ran, RunLaw, begun}
use Rattle.replay.specs.CallLines.{calls_of_lines, some_calls}
use Rattle.replay.specs.Replies.{replies}
use Rattle.replay.specs.Sections.{above_empty, below_empty}

-- A depot of either kind, as the rules of a step have it.
abbrev pub any_ruled : AnyDepot → Depot
any_ruled (Plain d) = ruled plain_same (tables_of d)
any_ruled (Sight d) = ruled sight_carries (tables_of d)

-- Calls that were sent in turn to a new walkthrough of a depot, with their answers: a run from the start, which keeps the law.
pub record Sent (d : Depot) (calls : List Call) (answers : List Answer) : Type 0 where
  pub left : Held
  pub ran : Ran d (begun d) calls (map answer_of answers) left
  pub law : RunLaw d calls (map answer_of answers) left

-- What is printed of a depot sheet and the list of calls on it: a reply to each line where the sheet is read, and else its
-- refusal. Nothing is printed where memory was wanting.
abbrev pub TrialReport : List ℕ → List ℕ → List ℕ → Type 0
TrialReport depot calls report =
    ((d : AnyDepot) × AnyRead depot d × (answers : List Answer) × Sent (any_ruled d) (some_calls (calls_of_lines calls)) answers × (report ≡ replies (calls_of_lines calls) (map Some answers)))
    ⊎ ((f : Fault) × AnyTold depot f × (f.refusal ≢ NoMemory) × (report ≡ refusal_report depot [] f))

-- A depot sheet and the list of calls on it.
pub record Trial : Type 0 where
  pub depot : List ℕ
  pub calls : List ℕ

-- The trials of an input: a depot sheet stands above an empty line, its calls above the next, and the others are below.
abbrev pub TrialsOf : List ℕ → List Trial → Type 0
TrialsOf s [] = s ≡ []
TrialsOf s (t ∷ ts) = (0 < length s) × (t.depot ≡ above_empty s) × (t.calls ≡ above_empty (below_empty s)) × TrialsOf (below_empty (below_empty s)) ts

-- What is printed of some trials, an empty line between two.
abbrev pub Reports : List Trial → List ℕ → Type 0
Reports [] report = report ≡ []
Reports (t ∷ []) report = TrialReport t.depot t.calls report
Reports (t ∷ u ∷ ts) report = (first : List ℕ) × (others : List ℕ) × TrialReport t.depot t.calls first × Reports (u ∷ ts) others × (report ≡ first ++ (10 ∷ others))

-- What is printed of an input.
abbrev pub Report : List ℕ → List ℕ → Type 0
Report s report = (ts : List Trial) × TrialsOf s ts × Reports ts report
