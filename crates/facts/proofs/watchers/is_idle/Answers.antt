use Rattle.std.proofs.Common.{◌∙◌, rules}
use Rattle.std.proofs.lemmas.Iterator.Search.{any_from_yields_List}
use borrow.Author.Tests.{tests}
use Rattle.facts.proofs.Idleness.{adds_none, any_pair, windows_of_two}
use Rattle.facts.proofs.watchers.is_idle.Goals as goal

pub returns : goal.returns
returns c =
    any_from_yields_List adds_none _ _ c.any.result c.any.ensures.ran (windows_of_two c.args.watchers.now c.array_windows.ensures.rest c.array_windows.ensures.size) (λ x b q k. search (rules, tests)) ∙ any_pair c.args.watchers.now
