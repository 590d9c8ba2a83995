use Rattle.std.proofs.Common.{not, sym, ap}
use Rattle.sheets.specs.Lines.{shown}
use Rattle.replay.proofs.Sectioned.{passed_on, stops_at_empty, stops_at_end}
use Rattle.replay.proofs.sections.from_empty_line.Goals as goal

pub loop-line-preserved : goal.loop-line-preserved
loop-line-preserved c = passed_on c.loop-line.rest.now c.in-Some.below.now (shown c.in-Some.line) _ c.in-Some.ensures.0 (sym (ap not c.if-is_empty.ensures)) c.loop-line.invariant

pub returns-then-is_empty : goal.returns-then-is_empty
returns-then-is_empty c = stops_at_empty c.args.input.now c.loop-line.rest.now (shown c.in-Some.line) _ c.in-Some.ensures.0 (sym (ap not c.if-is_empty.ensures)) c.loop-line.invariant

pub returns-in_default : goal.returns-in_default
returns-in_default c = stops_at_end c.args.input.now c.loop-line.rest.now c.in_default.ensures c.loop-line.invariant
