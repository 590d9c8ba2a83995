use Rattle.std.proofs.Common.{rules, tests}
use Rattle.std.proofs.lemmas.Iterator.{YieldsList-from_slice}
use Rattle.std.proofs.lemmas.Iterator.Adapters.{serves_from_places}
use Rattle.std.proofs.lemmas.Iterator.Search.{all_from_yields_List}
use Rattle.formulas.specs.Formulas.{holds}
use Rattle.formulas.specs.Shapes.{numbers}
use Rattle.formulas.specs.Truth.{stands_in}
use Rattle.formulas.proofs.Rows.{holds-All}
use Rattle.formulas.proofs.Trees.{less_deep}
use Rattle.formulas.proofs.truth.+fn-truth-all+truth.Goals as goal

pub all-requires-clause-callable : goal.all-requires-clause-callable
all-requires-clause-callable t c =
    serves_from_places (YieldsList-from_slice c.in-All.inner.items (cc)) (λ x q k. search rules)
    (λ x k h is. let less = less_deep c.in-All.inner k x.now h is in (search (rules, tests), tt))

pub returns-in-All : goal.returns-in-All
returns-in-All t c =
    let each = all_from_yields_List (λ one. holds (stands_in c.args.standing.now) (numbers one)) _ _ _ c.all.ensures.ran (YieldsList-from_slice c.in-All.inner.items cc) (λ x b q k. search (rules, tests)) in
    let all = holds-All (stands_in c.args.standing.now) c.in-All.inner in
    search rules
