use Rattle.std.proofs.Common.{rules}
use Rattle.std.specs.Option.{option_map}
use Rattle.walkthroughs.specs.Moments.{depot_of}
use Rattle.walkthroughs.specs.Searching.{seen}
use Rattle.walkthroughs.proofs.Contradicting.{GivenIn, first_in_step}
use Rattle.walkthroughs.proofs.Mapped.{first_in_slice}
use Rattle.walkthroughs.proofs.moment.Moment.first_effect.Goals as goal

pub returns : goal.returns
returns g c = λ passes tells.
    let d = depot_of c.args.self.now in
    first_in_step d passes c.args.moves.now c.find_map.result
    (first_in_slice 0 _ _ (λ a r f' k. search rules) (λ i m o. GivenIn d passes c.args.moves.now i m (option_map seen o)) (λ i m o k. k.met.1 passes tells) c.args.moves.now _ _ c.find_map.result c.iter.ensures.rest c.iter.ensures.runs c.enumerate.ensures.runs c.find_map.ensures.runs)
