use Rattle.std.proofs.Common.{sym, ◌∙◌, rules, zero-add}
use Rattle.std.specs.Str.{bytes_eq}
use Rattle.std.proofs.lemmas.Iterator.{YieldsList-from_slice}
use Rattle.std.proofs.lemmas.Iterator.Search.{position_from_yields_List}
use borrow.Author.Tests.{tests}
use Rattle.sheets.proofs.Sought.{first_from-position}
use Rattle.sheets.proofs.listed.find.Goals as goal

pub returns : goal.returns
returns c =
    let sought = first_from-position (λ t. bytes_eq t c.args.text.now) 0 c.args.names.now in
    let place = position_from_yields_List (λ t. bytes_eq t c.args.text.now) _ _ c.position.result c.position.ensures.ran (YieldsList-from_slice c.args.names.now cc) (λ x b q k. search (rules, tests)) ∙ sym (rw zero-add at sought) in
    search rules
