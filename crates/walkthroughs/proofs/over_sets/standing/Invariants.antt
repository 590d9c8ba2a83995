use Rattle.std.proofs.Common.{ℕ, ◌<◌}
use Rattle.formulas.specs.Truth.{stands_in}
use Rattle.walkthroughs.specs.SetRows.{has}
use Rattle.walkthroughs.proofs.Afterwards.{Uniting}
use Rattle.walkthroughs.proofs.over_sets.standing.Given as goal

abbrev pub invariant-loop-i : goal.invariant-loop-i
invariant-loop-i l =
    ((set : ℕ) → set < 256 → Uniting (λ o. stands_in o.adds l.fact) l.outcomes set (has l.added set) l.i)
    × ((set : ℕ) → set < 256 → Uniting (λ o. stands_in o.removes l.fact) l.outcomes set (has l.removed set) l.i)
