use Rattle.std.proofs.Common.{ℕ}
use Rattle.formulas.specs.Truth.{stands_in}
use Rattle.walkthroughs.proofs.Afterwards.{Uniting}
use Rattle.walkthroughs.proofs.after.unite.Given as goal

abbrev pub invariant-loop-i : goal.invariant-loop-i
invariant-loop-i l =
    ((f : ℕ) → Uniting (λ o. stands_in o.adds f) l.outcomes l.set (stands_in l.all.adds f) l.i)
    × ((f : ℕ) → Uniting (λ o. stands_in o.removes f) l.outcomes l.set (stands_in l.all.removes f) l.i)
