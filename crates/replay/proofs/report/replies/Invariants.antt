use Rattle.std.proofs.Common.{◌≡◌, ◌++◌, drop, map, string_bytes}
use Rattle.std.specs.Slice.Iter.{iter_rest}
use Rattle.replay.specs.CallLines.{as_calls}
use Rattle.replay.specs.Replies.{replies}
use Rattle.replay.proofs.report.replies.Given as goal

abbrev pub invariant-loop-line : goal.invariant-loop-line
invariant-loop-line l = string_bytes l.text ++ replies (as_calls (drop l.line-index l.lines)) (map (λ x. x.answer) (iter_rest l.answered)) ≡ replies (as_calls l.lines) (map (λ x. x.answer) l.exchanges)
