use Rattle.std.proofs.Common.{◌≡◌, ℕ, ◌<◌, take}
use Rattle.std.specs.List.{list_all}
use Rattle.formulas.specs.Formulas.{holds}
use Rattle.formulas.specs.Shapes.{numbers}
use Rattle.walkthroughs.specs.Outcomes.{left_of}
use Rattle.walkthroughs.specs.SetRows.{has}
use Rattle.walkthroughs.proofs.over_sets.+true_after.Given as goal

abbrev pub invariant-loop-one : goal.invariant-loop-one
invariant-loop-one l = (set : ℕ) → set < 256 → has l.sets set ≡ list_all (λ one. holds (left_of l.start l.outcomes set) (numbers one)) (take l.one-index l.one-items)
