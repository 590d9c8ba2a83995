use Rattle.std.proofs.Common.{◌≡◌, ◌+◌, ap, ◌∙◌, arith, rules}
use Rattle.std.specs.Option.{option_map}
use Rattle.std.specs.Slice.Iter.{iter_rest}
use Rattle.std.proofs.lemmas.Grind.{common_steps}
use Rattle.std.proofs.lemmas.Iterator.{YieldsList-from_slice}
use Rattle.std.proofs.lemmas.Iterator.Consumers.{YieldsList-from_enumerate}
use Rattle.std.proofs.lemmas.Iterator.Search.{position_from_yields_List}
use borrow.Author.Tests.{tests}
use Rattle.plans.proofs.Firsts.{again, repeated_first}
use Rattle.plans.proofs.step_line.repeated_move.Goals as goal

pub returns : goal.returns
returns c =
    let found = position_from_yields_List (again c.args.moves.now) _ _ c.position.result c.position.ensures.ran (YieldsList-from_enumerate (YieldsList-from_slice c.args.moves.now (ap (λ s. iter_rest s) c.enumerate.ensures.source ∙ c.iter.ensures.rest)) c.enumerate.ensures.count) (λ x b q k. (search rules, grind (tests, arith, common_steps))) in
    let number : c.map.result ≡ option_map (λ n. n + 1) c.position.result = search rules in
    rw number (repeated_first c.args.moves.now c.position.result found)
