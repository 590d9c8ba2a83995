use Rattle.std.proofs.Common.{Some, rules}
use borrow.Author.Tests.{tests}
use Rattle.depots.specs.Tables.{tables_of}
use Rattle.walkthroughs.specs.Moments.{depot_of, state_of}
use Rattle.walkthroughs.proofs.Judgement.{lacking, none_after, none_sized, none_unknown, refused, refused_size, repeated, unknown, unknown_ruled}
use Rattle.walkthroughs.proofs.moment.Moment.judge_alone.Goals as goal

pub returns-then-not-contains : goal.returns-then-not-contains
returns-then-not-contains g c = refused_size (depot_of c.args.self.now) (state_of c.args.self.now) c.args.moves.now (search (rules, tests))

pub returns-in-Some : goal.returns-in-Some
returns-in-Some g c =
    let d = depot_of c.args.self.now in
    let s = state_of c.args.self.now in
    let moves = c.args.moves.now in
    let low = unknown_ruled g.K.Kind.carrying (tables_of c.args.self.now.depot.now) s moves c.move_count.result c.move_count.ensures (Some c.in-Some.place) c.in-Some.ensures in
    refused d s moves unknown (none_sized d s moves (search (rules, tests))) c.in-Some.place low

pub returns-in-Some-repeated_move : goal.returns-in-Some-repeated_move
returns-in-Some-repeated_move g c =
    let d = depot_of c.args.self.now in
    let s = state_of c.args.self.now in
    let moves = c.args.moves.now in
    let none = none_unknown g.K.Kind.carrying (tables_of c.args.self.now.depot.now) s moves c.move_count.result c.move_count.ensures (search (rules, tests)) c.in_default.ensures in
    refused d s moves repeated none c.in-Some-repeated_move.place c.in-Some-repeated_move.ensures

pub returns-in-Some-false_need : goal.returns-in-Some-false_need
returns-in-Some-false_need g c =
    let d = depot_of c.args.self.now in
    let s = state_of c.args.self.now in
    let moves = c.args.moves.now in
    let none = none_unknown g.K.Kind.carrying (tables_of c.args.self.now.depot.now) s moves c.move_count.result c.move_count.ensures (search (rules, tests)) c.in_default.ensures in
    refused d s moves lacking (none_after d s moves repeated none c.in_default-repeated_move.ensures) c.in-Some-false_need.place c.in-Some-false_need.ensures

pub returns : goal.returns
returns g c =
    let d = depot_of c.args.self.now in
    let s = state_of c.args.self.now in
    let moves = c.args.moves.now in
    let none = none_unknown g.K.Kind.carrying (tables_of c.args.self.now.depot.now) s moves c.move_count.result c.move_count.ensures (search (rules, tests)) c.in_default.ensures in
    none_after d s moves lacking (none_after d s moves repeated none c.in_default-repeated_move.ensures) c.in_default-false_need.ensures
