use Rattle.std.proofs.Common.{◌≡◌, ◌+◌, eqb, not, rules}
use Rattle.std.specs.Option.{option_map}
use Rattle.std.proofs.lemmas.Iterator.Search.{position_from_yields_List}
use Rattle.std.proofs.lemmas.Iterator.Splits.{YieldsList-from_slice_split}
use borrow.Author.Tests.{tests}
use Rattle.sheets.specs.Names.{is_name}
use Rattle.sheets.specs.Pieces.{pieces}
use Rattle.plans.proofs.Firsts.{no_name_first}
use Rattle.plans.proofs.step_line.no_name.Goals as goal

pub returns : goal.returns
returns c =
    let found = position_from_yields_List (λ f. not (is_name f)) _ _ c.position.result c.position.ensures.ran (YieldsList-from_slice_split _ (λ b. eqb b 9) c.args.text.now c.split.ensures.rest c.split.ensures.done c.split.ensures.closure (λ x b q k. search (rules, tests))) (λ x b q k. search (rules, tests)) in
    let number : c.map.result ≡ option_map (λ n. n + 1) c.position.result = search rules in
    rw number (no_name_first (pieces 9 c.args.text.now) c.position.result found)
