use Rattle.std.proofs.Common.{◌≡◌, ◌++◌, map}
use Rattle.sheets.specs.Rest.{lines_left}
use Rattle.replay.specs.CallLines.{as_calls, call_of_line, calls_of_lines}
use Rattle.replay.proofs.call_lines.calls_of_lines.Given as goal

abbrev pub invariant-loop-line : goal.invariant-loop-line
invariant-loop-line l = as_calls l.calls.items ++ map (λ x. call_of_line x.text) (lines_left l.line-iterator) ≡ calls_of_lines l.list
