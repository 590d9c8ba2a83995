-- Lines of three depots worked through by hand: rows of one table. Assumes nothing.
use Rattle.std.specs.Prelude.{◌≡◌, ℕ, zero, suc, true, List, [], ◌∷◌, map, filter}
use Rattle.std.specs.List.{AllByRecursion}
use Rattle.sheets.specs.declared.refusals.Refusal.TheVariants.{Contradictory, Disturbed, NeedFalse, UnknownNumber}
use Rattle.walkthroughs.specs.Depots.{Depot}
use Rattle.walkthroughs.specs.Examples.{depot_g, depot_q, depot_s}
use Rattle.walkthroughs.specs.Firing.{start_of}
use Rattle.walkthroughs.specs.Judging.{answers_of, left_by}
use Rattle.walkthroughs.specs.Runs.{Answer, Call, Held, Ran, begun}
use Rattle.walkthroughs.specs.Runs.Answer.{accepted, refused, told}
use Rattle.walkthroughs.specs.Runs.Call.{look, step, truth}

-- A line: calls on a new walkthrough of a depot, what they answer, and which facts stand after them.
pub record Row : Type 0 where
  pub depot : Depot
  pub calls : List Call
  pub answers : List Answer
  pub standing : List ℕ

-- The k numbers from n on.
abbrev pub numbers_from : ℕ → ℕ → List ℕ
numbers_from n zero = []
numbers_from n (suc k) = n ∷ numbers_from (suc n) k

-- The worked lines of the depots S, Q and G.
abbrev pub table : List Row
table =
    record { depot = depot_s; calls = step (1 ∷ []) ∷ []; answers = accepted 1 ∷ []; standing = 1 ∷ 2 ∷ 3 ∷ [] }
    ∷ record { depot = depot_s; calls = step (2 ∷ []) ∷ []; answers = accepted 2 ∷ []; standing = 1 ∷ 2 ∷ 3 ∷ 4 ∷ [] }
    ∷ record { depot = depot_s; calls = step (2 ∷ []) ∷ step (4 ∷ []) ∷ []; answers = accepted 2 ∷ accepted 3 ∷ []; standing = 3 ∷ [] }
    ∷ record { depot = depot_s; calls = step (1 ∷ 3 ∷ []) ∷ []; answers = refused (NeedFalse 2) ∷ []; standing = 1 ∷ 2 ∷ [] }
    ∷ record { depot = depot_s; calls = step (2 ∷ 4 ∷ []) ∷ []; answers = refused (Contradictory 1 1 2 1) ∷ []; standing = 1 ∷ 2 ∷ [] }
    ∷ record { depot = depot_s; calls = step (1 ∷ 4 ∷ []) ∷ []; answers = refused (Disturbed 2 1 0) ∷ []; standing = 1 ∷ 2 ∷ [] }
    ∷ record { depot = depot_s; calls = step (1 ∷ []) ∷ step (3 ∷ []) ∷ truth 9 ∷ look 6 ∷ []; answers = accepted 1 ∷ accepted 1 ∷ told true ∷ refused UnknownNumber ∷ []; standing = 1 ∷ 2 ∷ 3 ∷ 5 ∷ [] }
    ∷ record { depot = depot_q; calls = step (1 ∷ 2 ∷ []) ∷ []; answers = accepted 2 ∷ []; standing = 1 ∷ 2 ∷ [] }
    ∷ record { depot = depot_q; calls = step (1 ∷ 2 ∷ 3 ∷ []) ∷ []; answers = refused (Disturbed 3 3 1) ∷ []; standing = [] }
    ∷ record { depot = depot_q; calls = step (4 ∷ 5 ∷ []) ∷ []; answers = refused (Disturbed 1 2 1) ∷ []; standing = [] }
    ∷ record { depot = depot_g; calls = step (1 ∷ 2 ∷ []) ∷ step (1 ∷ []) ∷ step (2 ∷ []) ∷ []; answers = refused (Disturbed 1 2 1) ∷ accepted 1 ∷ accepted 1 ∷ []; standing = 1 ∷ 2 ∷ 3 ∷ [] }
    ∷ []

-- What a line comes to: its answers, and the facts that stand at the end.
abbrev pub outcome : Row → List Answer × List ℕ
outcome r = (answers_of r.depot (start_of r.depot) r.calls, filter (left_by r.depot (start_of r.depot) r.calls) (numbers_from 1 r.depot.facts))

-- What it should come to.
abbrev pub expected : Row → List Answer × List ℕ
expected r = (r.answers, r.standing)

-- Every line comes out as it stands in the table.
abbrev pub Worked : Type 0
Worked = map outcome table ≡ map expected table

-- A line is a run by the rules.
abbrev pub IsRun : Row → Type 0
IsRun r = (left : Held) × Ran r.depot (begun r.depot) r.calls r.answers left × (filter left.stands (numbers_from 1 r.depot.facts) ≡ r.standing)

-- Every line is one.
abbrev pub WorkedRuns : Type 0
WorkedRuns = AllByRecursion IsRun table
