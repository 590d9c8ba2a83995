use Rattle.std.proofs.Common.{◌≡◌, Bool}
use denote.Ref.{Bor}
use Rattle.facts.proofs.Marked.{Marking}
use Rattle.facts.proofs.marks.remark.Given as goal

abbrev pub invariant-loop-i : goal.invariant-loop-i
invariant-loop-i g l = (settle : Bool → g.row.F.Denot → Bool) → ((b : Bool) (f : Bor g.row.F.Denot) (r : Bool) → goal.M-post g l.mark b f r → r ≡ settle b f.now) → Marking settle l.facts l.fn.row l.row l.i
