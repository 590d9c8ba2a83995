use Rattle.std.proofs.Common.{map, sym, ap, ◌∙◌, rules}
use Rattle.std.specs.Result.{result_err}
use Rattle.std.specs.Str.{bytes_eq}
use Rattle.std.proofs.lemmas.Iterator.{YieldsList-from_slice}
use Rattle.std.proofs.lemmas.Iterator.Search.{any_from_yields_List}
use borrow.Author.Tests.{tests}
use Rattle.depots.specs.Fields.{new_name, unlisted_name}
use Rattle.depots.proofs.Kept.{named_move}
use Rattle.depots.proofs.Named.{named}
use Rattle.depots.proofs.depot.Depot.new_move_name.Goals as goal

pub returns : goal.returns
returns g c =
    let found = any_from_yields_List (λ m. bytes_eq m.name c.args.text.now) _ _ c.any.result c.any.ensures.ran (YieldsList-from_slice c.deref.result.now cc) (λ x b q k. search (rules, tests)) in
    c.refuse_if_listed.ensures
    ∙ named c.any.result c.args.text.now (sym c.refuse_if_no_name.ensures ∙ ap result_err c.in_ok-refuse_if_no_name.was)
    ∙ ap (λ b. unlisted_name b c.args.text.now) (found ∙ named_move c.args.text.now c.deref.result.now)
    ∙ ap (λ l. new_name (map (λ m. m.name) l) c.args.text.now) c.deref.ensures.value
