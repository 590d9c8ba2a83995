-- What a formula is and when it is true. Assumes nothing.
use Rattle.std.specs.Prelude.{Bool, true, not, ◌&&◌}

mutual
  -- A formula (a need, a condition or the goal) over facts, which are texts on a sheet and numbers in a depot: a fact, the
  -- opposite of a formula, or all of some formulas.
  pub data Formula (F : Type 0) : Type 0 where
    fact : F → Formula F
    neg : Formula F → Formula F
    all : Formulas F → Formula F

  -- Formulas in a row.
  pub data Formulas (F : Type 0) : Type 0 where
    none : Formulas F
    more : Formula F → Formulas F → Formulas F

abbrev mutual
  -- A formula is true: a fact exactly if it stands.
  pub holds : {F : Type 0} → (F → Bool) → Formula F → Bool
  holds stands (fact f) = stands f
  holds stands (neg p) = not (holds stands p)
  holds stands (all ps) = all_hold stands ps

  -- Every one of some formulas is true.
  pub all_hold : {F : Type 0} → (F → Bool) → Formulas F → Bool
  all_hold stands none = true
  all_hold stands (more p ps) = holds stands p && all_hold stands ps
