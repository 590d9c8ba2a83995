-- What a tree of the code stands for. Assumes nothing.
use Rattle.std.specs.Prelude.{ℕ, List, [], ◌∷◌, map}
use Rattle.std.specs.Borrow.{Bor}
use Rattle.formulas.specs.declared.tree.Formula.{Formula as Tree, fold-Formula}
use Rattle.formulas.specs.declared.tree.Formula.TheOpen.{Formula-F}
use Rattle.formulas.specs.Formulas.{Formula, Formulas, fact, neg, all, none, more}

-- Formulas in a row, from the list of them.
abbrev pub row : {F : Type 0} → List (Formula F) → Formulas F
row [] = none
row (p ∷ ps) = more p (row ps)

-- The formula of one level of a tree, whose leaf stands for a fact and whose inner trees are formulas already.
abbrev pub level : {L F : Type 0} → (L → F) → Formula-F L (Formula F) → Formula F
level leaf (Formula-F.Fact l) = fact (leaf l)
level leaf (Formula-F.Not p) = neg p.value
level leaf (Formula-F.All ps) = all (row ps.items)

-- The formula of a tree, where each leaf stands for a fact.
abbrev pub shape : {L F : Type 0} → Tree L → (L → F) → Formula F
shape {L} {F} t leaf = fold-Formula L (Formula F) (level leaf) t

-- The formulas of some trees.
abbrev pub shapes : {L F : Type 0} → List (Tree L) → (L → F) → Formulas F
shapes ts leaf = row (map (λ t. shape t leaf) ts)

-- The formula of a tree whose leaves are parts of a text.
abbrev pub texted : Tree (Bor (List ℕ)) → Formula (List ℕ)
texted t = shape t (λ l. l.now)

-- The formulas of such trees.
abbrev pub texted_all : List (Tree (Bor (List ℕ))) → Formulas (List ℕ)
texted_all ts = shapes ts (λ l. l.now)

-- The formula of a tree whose leaves are fact numbers.
abbrev pub numbers : Tree ℕ → Formula ℕ
numbers t = shape t (λ n. n)

-- The formulas of such trees.
abbrev pub numbers_all : List (Tree ℕ) → Formulas ℕ
numbers_all ts = shapes ts (λ n. n)
