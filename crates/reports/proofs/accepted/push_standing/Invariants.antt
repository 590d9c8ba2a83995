use Rattle.std.proofs.Common.{◌≡◌, ◌++◌, suc, drop}
use Rattle.walkthroughs.specs.Walkthroughs.{held}
use Rattle.reports.specs.Accepted.{standing_lines}
use Rattle.reports.proofs.accepted.push_standing.Given as goal

abbrev pub invariant-loop-i : goal.invariant-loop-i
invariant-loop-i l =
    l.initial.report.items ++ standing_lines 1 (held l.walkthrough).stands l.texts
    ≡ l.report.items ++ standing_lines (suc l.i) (held l.walkthrough).stands (drop l.i l.texts)
