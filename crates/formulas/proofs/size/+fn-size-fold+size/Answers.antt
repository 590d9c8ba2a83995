use Rattle.std.proofs.Common.{rules, tests, ◌+◌, ◌^◌, ◌-◌, min, Some, refl}
use Rattle.std.proofs.iter.Yields.{serves_by}
use Rattle.std.proofs.lemmas.Iterator.{YieldsList-from_slice}
use Rattle.std.proofs.lemmas.Iterator.Consumers.{YieldsList-turn, fold_from_yields_List}
use Rattle.formulas.specs.Shapes.{texted}
use Rattle.formulas.specs.Spelling.{size_of}
use Rattle.formulas.proofs.Rows.{size-All}
use Rattle.formulas.proofs.Trees.{less_deep}
use Rattle.formulas.proofs.size.+fn-size-fold+size.Goals as goal

pub fold-requires-clause-callable : goal.fold-requires-clause-callable
fold-requires-clause-callable t c =
    serves_by _ (λ xs q. Unit {0}) (λ xs q x v j r. tt) _ _ _ _ tt
    (λ xs s q x u y e j.
    let turn = YieldsList-turn (YieldsList-from_slice c.in-All.inner.items (cc)) xs s y (Some x) u x refl e in
    let less = less_deep c.in-All.inner _ x.now turn.0 turn.1 in (search (rules, tests), tt))

pub returns-in-All : goal.returns-in-All
returns-in-All t c =
    let folded = fold_from_yields_List _ (λ all one. min (all + size_of (texted one)) (2 ^ 64 - 1)) 1 _ c.fold.ensures.ran (YieldsList-from_slice c.in-All.inner.items cc) (λ a x b q k. search (rules, tests)) in
    let all = size-All c.in-All.inner in
    search rules
