-- A formula over texts as one over the numbers of listed facts. Assumes nothing.
use Rattle.std.specs.Prelude.{◌≡◌, ℕ, Bool, true, false, ◌&&◌, List, Ok, Err, Result}
use Rattle.facts.specs.Numbering.{has_form}
use Rattle.facts.specs.declared.names.NoFact.{NoFact}
use Rattle.facts.specs.declared.names.NoFact.TheVariants as no_fact
use Rattle.formulas.specs.declared.resolve.Unresolved.{Unresolved}
use Rattle.formulas.specs.declared.resolve.Unresolved.TheVariants as unresolved
use Rattle.formulas.specs.declared.tree.Formula.{Formula as Tree}
use Rattle.formulas.specs.Formulas.{Formula, Formulas, fact, neg, all, none, more}
use Rattle.formulas.specs.Shapes.{numbers}

abbrev mutual
  -- Every fact of a formula passes a test.
  pub each_passes : {F : Type 0} → (F → Bool) → Formula F → Bool
  each_passes test (fact f) = test f
  each_passes test (neg p) = each_passes test p
  each_passes test (all ps) = each_passes_in test ps

  -- Every fact of some formulas passes a test.
  pub each_passes_in : {F : Type 0} → (F → Bool) → Formulas F → Bool
  each_passes_in test none = true
  each_passes_in test (more p ps) = each_passes test p && each_passes_in test ps

abbrev mutual
  -- A formula with something else in the place of each fact.
  pub renamed : {F G : Type 0} → (F → G) → Formula F → Formula G
  renamed name (fact f) = fact (name f)
  renamed name (neg p) = neg (renamed name p)
  renamed name (all ps) = all (renamed_in name ps)

  -- The same of some formulas.
  pub renamed_in : {F G : Type 0} → (F → G) → Formulas F → Formulas G
  renamed_in name none = none
  renamed_in name (more p ps) = more (renamed name p) (renamed_in name ps)

-- A test of every fact of a formula came out as the results of the single facts have it.
abbrev pub Tests : {F : Type 0} → (F → Bool → Type 0) → Formula F → Bool → Type 0
Tests {F} gives p passed = (test : F → Bool) → ((f : F) (b : Bool) → gives f b → b ≡ test f) → passed ≡ each_passes test p

-- A text is a listed fact.
abbrev pub is_listed : Result ℕ NoFact → Bool
is_listed (Ok n) = true
is_listed (Err why) = false

-- The number of a listed fact.
abbrev pub number_in : Result ℕ NoFact → ℕ
number_in (Ok n) = n
number_in (Err why) = 0

-- Facts that are all listed, and the formula with their numbers.
abbrev pub Numbered : (List ℕ → Result ℕ NoFact) → Formula (List ℕ) → Formula ℕ → Type 0
Numbered number p q = (each_passes (λ text. is_listed (number text)) p ≡ true) × (q ≡ renamed (λ text. number_in (number text)) p)

-- The numbers of a formula's facts, or a fault that some fact has.
abbrev pub Numbers : (List ℕ → Result ℕ NoFact) → Formula (List ℕ) → Result (Tree ℕ) Unresolved → Type 0
Numbers number p (Ok t) = Numbered number p (numbers t)
Numbers number p (Err (unresolved.NoFact no_fact.NotItsForm)) = each_passes (λ text. has_form (number text)) p ≡ false
Numbers number p (Err (unresolved.NoFact no_fact.NotListed)) = each_passes (λ text. is_listed (number text)) p ≡ false
Numbers number p (Err unresolved.NoMemory) = Unit {0}

-- What a formula over texts comes to. A fact that has not its form, wherever it stands, comes before one that is not
-- listed. Memory can be wanting only once every fact is listed.
abbrev pub Resolves : (List ℕ → Result ℕ NoFact) → Formula (List ℕ) → Result (Tree ℕ) Unresolved → Type 0
Resolves number p (Ok t) = Numbered number p (numbers t)
Resolves number p (Err (unresolved.NoFact no_fact.NotItsForm)) = each_passes (λ text. has_form (number text)) p ≡ false
Resolves number p (Err (unresolved.NoFact no_fact.NotListed)) = (each_passes (λ text. has_form (number text)) p ≡ true) × (each_passes (λ text. is_listed (number text)) p ≡ false)
Resolves number p (Err unresolved.NoMemory) = each_passes (λ text. is_listed (number text)) p ≡ true
