use Rattle.std.proofs.Common.{refl}
use Rattle.depots.specs.Tables.{tables_of}
use Rattle.walkthroughs.specs.Moments.{depot_of, state_of}
use Rattle.walkthroughs.proofs.Among.{carrying_among}
use Rattle.walkthroughs.proofs.Judgement.{accepted_after, contradicting, disturbing, few_moves, none_after, refused}
use Rattle.walkthroughs.proofs.moment.Moment.judge_together.Goals as goal

pub returns-in-Some : goal.returns-in-Some
returns-in-Some g c = rw c.into.ensures (refused (depot_of c.args.self.now) (state_of c.args.self.now) c.args.moves.now contradicting c.requires.alone c.in-Some.found c.in-Some.ensures)

pub disturbance-requires-clause-few : goal.disturbance-requires-clause-few
disturbance-requires-clause-few g c = few_moves (depot_of c.args.self.now) (state_of c.args.self.now) c.args.moves.now c.requires.alone

pub returns-in-Some-disturbance : goal.returns-in-Some-disturbance
returns-in-Some-disturbance g c =
    let d = depot_of c.args.self.now in
    let s = state_of c.args.self.now in
    let moves = c.args.moves.now in
    rw c.into-in-Some-disturbance.ensures (refused d s moves disturbing (none_after d s moves contradicting c.requires.alone c.in_default.ensures) c.in-Some-disturbance.found c.in-Some-disturbance.ensures)

pub returns : goal.returns
returns g c =
    let d = depot_of c.args.self.now in
    let s = state_of c.args.self.now in
    let moves = c.args.moves.now in
    let law = carrying_among g.K.Kind.carrying (tables_of c.args.self.now.depot.now).facts g.met.K.Kind.reflexive g.met.K.Kind.transitive d refl refl in
    accepted_after d s moves law (none_after d s moves disturbing (none_after d s moves contradicting c.requires.alone c.in_default.ensures) c.in_default-disturbance.ensures)
