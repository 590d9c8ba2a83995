-- What is so of a tree of several, by what is so of each. Assumes nothing.
use Rattle.std.proofs.Common.{◌≡◌, ℕ, ◌+◌, ◌-◌, ◌^◌, min, Bool, ◌&&◌, List, [], ◌∷◌, Bor, Vec, refl, sym, ap, ◌∙◌, arith}
use Rattle.std.specs.List.{list_all, fold}
use Rattle.std.specs.declared.alloc.Global.{Global}
use Rattle.formulas.specs.declared.tree.Formula.{Formula as Tree}
use Rattle.formulas.specs.declared.tree.Formula.TheViews.{All}
use Rattle.formulas.specs.Formulas.{holds, all_hold}
use Rattle.formulas.specs.Resolving.{each_passes, each_passes_in}
use Rattle.formulas.specs.Shapes.{numbers, numbers_all, texted, texted_all}
use Rattle.formulas.specs.Spelling.{size_of, size_in}
use Rattle.formulas.proofs.Trees.{shape_of_all}

all_hold-each : (stands : ℕ → Bool) (ts : List (Tree ℕ)) → list_all (λ t. holds stands (numbers t)) ts ≡ all_hold stands (numbers_all ts)
all_hold-each stands [] = refl
all_hold-each stands (t ∷ ts) = ap (λ rest. holds stands (numbers t) && rest) (all_hold-each stands ts)

pub holds-All : (stands : ℕ → Bool) (ts : Vec (Tree ℕ) Global) → list_all (λ t. holds stands (numbers t)) ts.items ≡ holds stands (numbers (All ts))
holds-All stands ts = all_hold-each stands ts.items ∙ ap (holds stands) (sym (shape_of_all (λ n. n) ts))

each_passes-each : (test : List ℕ → Bool) (ts : List (Tree (Bor (List ℕ)))) → list_all (λ t. each_passes test (texted t)) ts ≡ each_passes_in test (texted_all ts)
each_passes-each test [] = refl
each_passes-each test (t ∷ ts) = ap (λ rest. each_passes test (texted t) && rest) (each_passes-each test ts)

pub each_passes-All : (test : List ℕ → Bool) (ts : Vec (Tree (Bor (List ℕ))) Global) → list_all (λ t. each_passes test (texted t)) ts.items ≡ each_passes test (texted (All ts))
each_passes-All test ts = each_passes-each test ts.items ∙ ap (each_passes test) (sym (shape_of_all (λ l. l.now) ts))

-- sizes added up as far as a number reaches
size_in-fold : (all : ℕ) (ts : List (Tree (Bor (List ℕ)))) → fold (λ all t. min (all + size_of (texted t)) (2 ^ 64 - 1)) (min all (2 ^ 64 - 1)) ts ≡ min (all + size_in (texted_all ts)) (2 ^ 64 - 1)
size_in-fold all [] = omega arith
size_in-fold all (t ∷ ts) =
    let step : min (min all (2 ^ 64 - 1) + size_of (texted t)) (2 ^ 64 - 1) ≡ min (all + size_of (texted t)) (2 ^ 64 - 1) = omega arith in
    let rest = size_in-fold (all + size_of (texted t)) ts in
    let sum : all + size_of (texted t) + size_in (texted_all ts) ≡ all + (size_of (texted t) + size_in (texted_all ts)) = omega arith in
    ap (λ n. fold (λ all t. min (all + size_of (texted t)) (2 ^ 64 - 1)) n ts) step ∙ rest ∙ ap (λ n. min n (2 ^ 64 - 1)) sum

pub size-All : (ts : Vec (Tree (Bor (List ℕ))) Global) → fold (λ all t. min (all + size_of (texted t)) (2 ^ 64 - 1)) 1 ts.items ≡ min (size_of (texted (All ts))) (2 ^ 64 - 1)
size-All ts =
    let one : 1 + size_in (texted_all ts.items) ≡ size_of (texted (All ts)) = omega (arith, ap size_of (shape_of_all (λ l. l.now) ts)) in
    size_in-fold 1 ts.items ∙ ap (λ n. min n (2 ^ 64 - 1)) one
