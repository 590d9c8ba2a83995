use Rattle.std.proofs.Common.{◌<◌, ◌≤◌, min, length, arith}
use Rattle.facts.proofs.Marked.{mark_more, mark_all}
use Rattle.facts.proofs.marks.remark.Goals as goal

pub loop-i-preserved : goal.loop-i-preserved
loop-i-preserved g c = λ settle how.
    let listed : c.loop-i.i < length c.args.facts.now = omega arith in
    let within : c.loop-i.i < length c.loop-i.row = omega (arith, c.loop-i.auto.row) in
    mark_more settle c.args.facts.now c.args.row.now c.loop-i.row c.loop-i.i c.index-facts-i.result c.mark.result listed within (c.index-facts-i.is) (how _ _ _ c.mark.ensures) (c.loop-i.invariant settle how)

pub returns : goal.returns
returns g c = λ settle how.
    let end : min (length c.args.facts.now) (length c.loop-i.row) ≤ c.loop-i.i = omega (arith, c.loop-i.auto.row) in
    mark_all settle c.args.facts.now c.args.row.now c.loop-i.row c.loop-i.i end (c.loop-i.invariant settle how)
