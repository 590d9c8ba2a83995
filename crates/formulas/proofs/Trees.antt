-- The formula of a tree, from what its first variant has. Assumes nothing.
use Rattle.std.proofs.Common.{◌≡◌, ℕ, ◌<◌, length, get_or, ap, ◌∙◌, sym, Box, Vec, rules}
use Rattle.std.specs.declared.alloc.Global.{Global}
use Rattle.formulas.specs.declared.tree.Formula.{Formula as Tree}
use Rattle.formulas.specs.declared.tree.Formula.TheOpen.{Formula-F}
use Rattle.formulas.specs.declared.tree.Formula.TheViews.{Not, All, rolls-Fact, rolls-Not, rolls-All, size-Formula, the_lemmas}
use Rattle.formulas.specs.declared.tree.Formula.TheVariants.{Fact}
use Rattle.formulas.specs.declared.tree.Formula.TheFolds.{fold-roll-Formula}
use Rattle.formulas.specs.Formulas.{Formula, fact, neg, all}
use Rattle.formulas.specs.Shapes.{shape, shapes, level}

pub shape_of_all : {L F : Type 0} (leaf : L → F) (ts : Vec (Tree L) Global) → shape (All ts) leaf ≡ all (shapes ts.items leaf)
shape_of_all {L} {F} leaf ts = ap (λ t. shape t leaf) (sym (rolls-All ts)) ∙ fold-roll-Formula L (Formula F) (level leaf) (Formula-F.All ts)

pub shape_of_fact : {L F : Type 0} (leaf : L → F) (l : L) → shape (Fact l) leaf ≡ fact (leaf l)
shape_of_fact {L} {F} leaf l = ap (λ t. shape t leaf) (sym (rolls-Fact l)) ∙ fold-roll-Formula L (Formula F) (level leaf) (Formula-F.Fact l)

pub shape_of_not : {L F : Type 0} (leaf : L → F) (t : Box (Tree L) Global) → shape (Not t) leaf ≡ neg (shape t.value leaf)
shape_of_not {L} {F} leaf t = ap (λ t. shape t leaf) (sym (rolls-Not t)) ∙ fold-roll-Formula L (Formula F) (level leaf) (Formula-F.Not t)

-- each tree of several is less deep than the tree of them all
pub less_deep : {L : Type 0} (ts : Vec (Tree L) Global) (i : ℕ) (t : Tree L) → i < length ts.items → t ≡ get_or ts.items i t → size-Formula L t < size-Formula L (All ts)
less_deep {L} ts i t h is = let same = ap (size-Formula L) is in search (rules, the_lemmas)
