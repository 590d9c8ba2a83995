use Rattle.std.proofs.Common.{take, arith}
use Rattle.std.proofs.lemmas.List.{take_more, length-take-le}
use Rattle.facts.specs.ShortLists.{entries_of}
use Rattle.facts.proofs.Gathered.{taken}
use Rattle.walkthroughs.specs.Moments.{depot_of, state_of}
use Rattle.walkthroughs.proofs.Outcomes.{length-outcomes, outcomes_more}
use Rattle.walkthroughs.proofs.moment.Moment.outcomes.Goals as goal

pub unwrap-requires : goal.unwrap-requires
unwrap-requires g c =
    let moves = c.args.moves.now in
    let i = c.loop-number.number-index in
    let many = length-outcomes (depot_of c.args.self.now) (state_of c.args.self.now) (take i moves) (entries_of c.loop-number.outcomes) c.loop-number.invariant in
    taken _ _ c.push.result c.push.ensures.room (λ back full. omega (arith, full.0, many, length-take-le i moves, c.loop-number-test.true, c.requires))

pub loop-number-preserved : goal.loop-number-preserved
loop-number-preserved g c =
    let moves = c.args.moves.now in
    let i = c.loop-number.number-index in
    let pushed = rw c.unwrap.ensures at c.push.ensures.room in
    rw (take_more moves i 0 c.loop-number-test.true, pushed.1) (outcomes_more (depot_of c.args.self.now) (state_of c.args.self.now) (take i moves) (entries_of c.loop-number.outcomes) _ c.fire.result c.loop-number.invariant c.fire.ensures)
