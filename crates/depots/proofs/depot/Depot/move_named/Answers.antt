use Rattle.std.proofs.Common.{◌≡◌, ◌+◌, map, ap, ◌∙◌, rules}
use Rattle.std.specs.Option.{option_map}
use Rattle.std.specs.Str.{bytes_eq}
use Rattle.std.proofs.lemmas.Iterator.{YieldsList-from_slice}
use Rattle.std.proofs.lemmas.Iterator.Search.{position_from_yields_List}
use borrow.Author.Tests.{tests}
use Rattle.depots.specs.Moves.{move_named}
use Rattle.depots.proofs.Kept.{number_of_named}
use Rattle.depots.proofs.depot.Depot.move_named.Goals as goal

pub returns : goal.returns
returns g c =
    let found = position_from_yields_List (λ m. bytes_eq m.name c.args.name.now) _ _ c.position.result c.position.ensures.ran (YieldsList-from_slice c.deref.result.now cc) (λ x b q k. search (rules, tests)) in
    let number : c.map.result ≡ option_map (λ n. n + 1) c.position.result = search rules in
    number ∙ number_of_named c.args.name.now c.deref.result.now c.position.result found ∙ ap (λ l. move_named (map (λ m. m.name) l) c.args.name.now) c.deref.ensures.value
