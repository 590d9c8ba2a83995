use Rattle.std.proofs.Common.{sym, length-take-le}
use Rattle.batch.proofs.Fitting.{fits}
use Rattle.batch.proofs.judged.judge_pair.Goals as goal

pub slice_bounds-extend_from_slice-end : goal.slice_bounds-extend_from_slice-end
slice_bounds-extend_from_slice-end c =
    fits _ c.check.result c.map_err.result c.args.pair.now.depot.now c.args.pair.now.plan.now c.args.buffer.now c.check.new.buffer c.in_ok-length.length c.check.ensures c.map_err.ensures.cases c.in_ok-length.was

pub slice_bounds-extend_from_slice-end-2 : goal.slice_bounds-extend_from_slice-end-2
slice_bounds-extend_from_slice-end-2 c = sym (length-take-le c.in_ok-length.length c.check.new.buffer (slice_bounds-extend_from_slice-end c))
