use Rattle.std.proofs.Common.{◌≡◌, ◌++◌, drop, map}
use Rattle.walkthroughs.specs.Exchanges.{call_of}
use Rattle.replay.specs.CallLines.{as_calls, some_calls}
use Rattle.replay.proofs.call_lines.exchanges.Given as goal

abbrev pub invariant-loop-line : goal.invariant-loop-line
invariant-loop-line l = map (λ x. call_of x.call) l.exchanges.items ++ some_calls (as_calls (drop l.line-index l.lines)) ≡ some_calls (as_calls l.lines)
