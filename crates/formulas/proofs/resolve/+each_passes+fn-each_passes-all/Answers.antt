use Rattle.std.proofs.Common.{rules, tests}
use Rattle.std.proofs.lemmas.Iterator.{YieldsList-from_slice}
use Rattle.std.proofs.lemmas.Iterator.Adapters.{serves_from_places}
use Rattle.std.proofs.lemmas.Iterator.Search.{all_from_yields_List}
use Rattle.formulas.specs.Resolving.{each_passes}
use Rattle.formulas.specs.Shapes.{texted}
use Rattle.formulas.proofs.Rows.{each_passes-All}
use Rattle.formulas.proofs.Trees.{less_deep, shape_of_fact}
use Rattle.formulas.proofs.resolve.+each_passes+fn-each_passes-all.Goals as goal

pub all-requires-clause-callable : goal.all-requires-clause-callable
all-requires-clause-callable g t c =
    serves_from_places (YieldsList-from_slice c.in-All.inner.items (cc)) (λ x q k. search rules)
    (λ x k h is. let less = less_deep c.in-All.inner k x.now h is in (search (rules, tests), (λ a m. m, c.requires)))

pub returns-in-All : goal.returns-in-All
returns-in-All g t c = λ test gives.
    let each = all_from_yields_List (λ one. each_passes test (texted one)) _ _ _ c.all.ensures.ran (YieldsList-from_slice c.in-All.inner.items cc) (λ x b q k. search (rules, tests)) in
    let all = each_passes-All test c.in-All.inner in
    search rules

pub returns-in-Fact : goal.returns-in-Fact
returns-in-Fact g t c = λ test gives.
    let passed = gives c.in-Fact.text.now c.test.result (search rules) in
    let here = shape_of_fact (λ l. l.now) c.in-Fact.text in
    search rules
