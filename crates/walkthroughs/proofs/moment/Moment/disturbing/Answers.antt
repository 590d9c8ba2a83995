use Rattle.std.proofs.Common.{◌≡◌, ◌+◌, not, ◌&&◌, ◌||◌, length, get_or, sym, ap, ◌∙◌, arith}
use Rattle.walkthroughs.specs.DisturbingSets.{disturbs, some_part_other}
use Rattle.walkthroughs.specs.Firing.{after}
use Rattle.walkthroughs.specs.Moments.{depot_of, state_of}
use Rattle.walkthroughs.specs.SetRows.{has}
use Rattle.walkthroughs.specs.Sets.{chosen, in_set}
use Rattle.walkthroughs.proofs.Afterwards.{after-left}
use Rattle.walkthroughs.proofs.DisturbingSets.{some_more, some_none}
use Rattle.walkthroughs.proofs.moment.Moment.disturbing.Goals as goal

pub loop-i-init : goal.loop-i-init
loop-i-init g c = λ set below. c.no_set-sets.ensures set below ∙ sym (some_none _)

pub loop-i-preserved : goal.loop-i-preserved
loop-i-preserved g c = λ set below.
    let d = depot_of c.args.self.now in
    let s = state_of c.args.self.now in
    let moves = c.args.moves.now in
    let i = c.loop-i.i in
    let m = get_or moves i 0 in
    c.either-sets.ensures set below
    ∙ ap (λ b. b || has c.disturbing_at.result set) (c.loop-i.invariant set below)
    ∙ ap (λ b. disturbs d s moves set i || b) (c.disturbing_at.ensures set below ∙ ap (λ t. some_part_other d s t m && not (in_set set (i + 1))) (after-left d c.args.self.now.row.now moves c.args.outcomes.now set c.requires))
    ∙ sym (some_more (λ j. some_part_other d s (after d s (chosen set moves)) (get_or moves j 0) && not (in_set set (j + 1))) i)

pub returns : goal.returns
returns g c = λ set below.
    let all : c.loop-i.i ≡ length c.args.moves.now = omega (arith, c.loop-i-test.false, c.loop-i.auto.i-end) in
    c.loop-i.invariant set below ∙ ap (disturbs (depot_of c.args.self.now) (state_of c.args.self.now) c.args.moves.now set) all
