use Rattle.std.proofs.Common.{eqb, rules}
use Rattle.std.proofs.lemmas.Iterator.Search.{all_from_yields_List}
use Rattle.std.proofs.lemmas.Iterator.Splits.{YieldsList-from_slice_split}
use borrow.Author.Tests.{tests}
use Rattle.facts.specs.Numbering.{has_form, number_under}
use Rattle.depots.proofs.settings.all_formed.Goals as goal

pub returns : goal.returns
returns g c =
    all_from_yields_List (λ part. has_form (number_under g.K.Kind c.args.listed.now part)) _ _ c.all.result c.all.ensures.ran (YieldsList-from_slice_split _ (λ b. eqb b 44) c.args.text.now c.split.ensures.rest c.split.ensures.done c.split.ensures.closure (λ x b q k. search (rules, tests))) (λ x b q k. search (rules, tests))
