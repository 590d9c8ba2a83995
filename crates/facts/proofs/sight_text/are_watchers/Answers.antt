use Rattle.std.proofs.Common.{eqb, rules}
use Rattle.std.proofs.lemmas.Iterator.Search.{all_from_yields_List}
use Rattle.std.proofs.lemmas.Iterator.Splits.{YieldsList-from_slice_split}
use borrow.Author.Tests.{tests}
use Rattle.facts.specs.Parts.{is_watcher}
use Rattle.facts.proofs.sight_text.are_watchers.Goals as goal

pub returns : goal.returns
returns c =
    all_from_yields_List is_watcher _ _ c.all.result c.all.ensures.ran (YieldsList-from_slice_split _ (λ b. eqb b 46) c.args.text.now c.split.ensures.rest c.split.ensures.done c.split.ensures.closure (λ x b q k. search (rules, tests))) (λ x b q k. search (rules, tests))
