use Rattle.std.proofs.Common.{◌≡◌, ◌≤◌}
use Rattle.formulas.specs.Truth.{stands_in}
use Rattle.walkthroughs.specs.Marks.{moved_to, standing}
use Rattle.walkthroughs.specs.Steps.{changed}
use Rattle.walkthroughs.proofs.marks.Marks.turn_to.Given as goal

abbrev pub invariant-loop-i : goal.invariant-loop-i
invariant-loop-i l =
    (standing l.self ≡ moved_to l.i (standing l.initial.self) (stands_in l.wanted))
    × (l.changes ≤ l.i)
    × (l.changes ≡ changed l.i (standing l.initial.self) (stands_in l.wanted))
