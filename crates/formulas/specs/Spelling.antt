-- How a formula is written, how deep it is and how large. Assumes nothing.
use Rattle.std.specs.Prelude.{◌≡◌, ℕ, suc, ◌+◌, ◌<◌, max, Bool, false, ◌||◌, List, [], ◌∷◌, ◌++◌, length, ◌==◌}
use Rattle.std.specs.List.{AllByRecursion}
use Rattle.formulas.specs.Formulas.{Formula, Formulas, fact, neg, all, none, more}

-- The bytes that mean something in a formula: `!`, `(`, `)` and `&`.
abbrev pub is_mark : ℕ → Bool
is_mark b = b == 33 || b == 40 || b == 41 || b == 38

-- The text of a fact has one byte or more, and no mark.
abbrev pub FactText : List ℕ → Type 0
FactText text = (0 < length text) × AllByRecursion (λ b. is_mark b ≡ false) text

abbrev mutual
  -- Something is so of every fact of a formula.
  pub EachFact : {F : Type 0} → (F → Type 0) → Formula F → Type 0
  EachFact P (fact f) = P f
  EachFact P (neg p) = EachFact P p
  EachFact P (all ps) = EachFactIn P ps

  -- Something is so of every fact of some formulas.
  pub EachFactIn : {F : Type 0} → (F → Type 0) → Formulas F → Type 0
  EachFactIn P none = Unit {0}
  EachFactIn P (more p ps) = EachFact P p × EachFactIn P ps

-- Every fact of a formula is written as a fact can be.
abbrev pub WellTexted : Formula (List ℕ) → Type 0
WellTexted p = EachFact FactText p

abbrev mutual
  -- The text of a formula: a fact's own, `!` before what it turns, or brackets round formulas.
  pub spelled : Formula (List ℕ) → List ℕ
  spelled (fact text) = text
  spelled (neg p) = 33 ∷ spelled p
  spelled (all ps) = 40 ∷ (spelled_all ps ++ 41 ∷ [])

  -- The text of formulas in a row, parted by `&`.
  pub spelled_all : Formulas (List ℕ) → List ℕ
  spelled_all none = []
  spelled_all (more p ps) = spelled p ++ spelled_on ps

  -- The text of the formulas after the first, each with `&` before it.
  pub spelled_on : Formulas (List ℕ) → List ℕ
  spelled_on none = []
  spelled_on (more p ps) = 38 ∷ (spelled p ++ spelled_on ps)

-- The depth and the size apart: one measure for both, told what a fact counts and how formulas are joined, is longer and says less.
abbrev mutual
  -- How deep a formula is: a fact has depth 0, and each `!` or pair of brackets adds 1 to the deepest formula inside.
  pub depth_of : {F : Type 0} → Formula F → ℕ
  depth_of (fact f) = 0
  depth_of (neg p) = suc (depth_of p)
  depth_of (all ps) = suc (depth_in ps)

  -- How deep the deepest of some formulas is.
  pub depth_in : {F : Type 0} → Formulas F → ℕ
  depth_in none = 0
  depth_in (more p ps) = max (depth_of p) (depth_in ps)

abbrev mutual
  -- How large a formula is: its facts, `!` marks and pairs of brackets counted together.
  pub size_of : {F : Type 0} → Formula F → ℕ
  size_of (fact f) = 1
  size_of (neg p) = suc (size_of p)
  size_of (all ps) = suc (size_in ps)

  -- How large some formulas are together.
  pub size_in : {F : Type 0} → Formulas F → ℕ
  size_in none = 0
  size_in (more p ps) = size_of p + size_in ps
