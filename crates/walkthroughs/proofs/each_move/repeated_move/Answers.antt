use Rattle.std.proofs.Common.{◌≡◌, ◌+◌, eqb, take, rules}
use Rattle.std.specs.List.{list_any}
use Rattle.std.specs.Option.{option_map}
use borrow.Author.Tests.{tests}
use Rattle.walkthroughs.proofs.Mapped.{position_in_slice}
use Rattle.walkthroughs.proofs.Placewise.{FirstRepeated, repeated_first}
use Rattle.walkthroughs.proofs.each_move.repeated_move.Goals as goal

pub returns : goal.returns
returns c =
    let first : FirstRepeated c.args.moves.now c.position.result = position_in_slice 0 _ _ (λ a r f' k. search rules) (λ i m r. r ≡ list_any (λ n. eqb n m) (take i c.args.moves.now)) (λ i m r k. search (rules, tests)) c.args.moves.now _ _ c.position.result c.iter.ensures.rest c.iter.ensures.runs c.enumerate.ensures.runs c.position.ensures.runs in
    let place : c.map.result ≡ option_map (λ i. i + 1) c.position.result = search rules in
    rw place (repeated_first c.args.moves.now c.position.result first)
