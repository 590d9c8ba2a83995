use Rattle.std.proofs.Common.{◌≡◌, ℕ, length}
use Rattle.depots.specs.Tables.{tables_of}
use Rattle.formulas.specs.Truth.{stands_in}
use Rattle.walkthroughs.specs.Kinds.{MarksBy, carries_among}
use Rattle.walkthroughs.proofs.Spread.{Spreading}
use Rattle.walkthroughs.proofs.by_number.mark_by.Given as goal

abbrev pub invariant-loop-number : goal.invariant-loop-number
invariant-loop-number g l = (length l.row ≡ 128) × ((by : _) → MarksBy by (tables_of l.depot).facts (λ fact marks after. goal.M-post g l.mark fact marks tt after) → (f : ℕ) → Spreading (λ n. carries_among by (tables_of l.depot).facts n f) l.numbers (stands_in l.initial.row f) (stands_in l.row f) l.number-index)
