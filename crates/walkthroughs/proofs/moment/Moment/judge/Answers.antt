use Rattle.std.proofs.Common.{◌-◌, length, ap, ◌∙◌}
use Rattle.walkthroughs.specs.Firing.{after}
use Rattle.walkthroughs.specs.Moments.{depot_of, state_of}
use Rattle.walkthroughs.specs.Outcomes.{AreOutcomes}
use Rattle.walkthroughs.specs.Sets.{chosen}
use Rattle.walkthroughs.proofs.Afterwards.{after-chosen}
use Rattle.walkthroughs.proofs.Judgement.{few_moves}
use Rattle.walkthroughs.proofs.SetSearch.{sets_fit}
use Rattle.walkthroughs.proofs.Subsets.{chosen-all}
use Rattle.walkthroughs.proofs.moment.Moment.judge.Goals as goal

pub outcomes-outcomes-requires : goal.outcomes-outcomes-requires
outcomes-outcomes-requires g c = few_moves (depot_of c.args.self.now) (state_of c.args.self.now) c.args.moves.now c.in_ok-judge_alone.ensures

pub returns : goal.returns
returns g c =
    let d = depot_of c.args.self.now in
    let s = state_of c.args.self.now in
    let moves = c.args.moves.now in
    let left = c.after_set.ensures in
    let known : AreOutcomes d s moves c.entries-2.result.now = rw c.entries-2.ensures c.outcomes-outcomes.ensures in (
      c.in_ok-judge_together.ensures,
      left.2 ∙ after-chosen d c.args.self.now.row.now moves c.entries-2.result.now _ left.0 known left.1
          ∙ ap (λ n. after d s (chosen (n - 1) moves)) (sets_fit (length moves) (few_moves d s moves c.in_ok-judge_alone.ensures))
          ∙ ap (after d s) (chosen-all moves),
    )
