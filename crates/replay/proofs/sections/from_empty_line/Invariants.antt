use Rattle.std.proofs.Common.{◌≡◌, length}
use Rattle.sheets.specs.Lines.{lines_of}
use Rattle.replay.proofs.Sectioned.{lines_from}
use Rattle.replay.proofs.sections.from_empty_line.Given as goal

abbrev pub invariant-loop-line : goal.invariant-loop-line
invariant-loop-line l = lines_from (lines_of l.rest) ≡ lines_from (lines_of l.input)

abbrev pub decreases-loop-line : goal.decreases-loop-line
decreases-loop-line l = length l.rest
