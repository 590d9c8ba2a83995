-- A search from the lowest number on. Assumes nothing.
use Rattle.std.specs.Option.{MatchOption, option_map}
use Rattle.std.proofs.Common.{◌≡◌, ℕ, ◌+◌, ◌-◌, ◌<◌, ◌≤◌, List, Some, None, Option, sym, subst, inl, inr, arith}
use Rattle.std.proofs.lemmas.Bool.{cases_order}
use Rattle.sheets.specs.Faults.{NoLater}
use Rattle.walkthroughs.specs.Searching.{LowestBy, one}
use Rattle.walkthroughs.proofs.Mapped.{FirstGiven}

-- the first number that is found, as the lowest
module _ (Q : ℕ → Type 0) (k : ℕ) where
  pub lowest_first : ((n : ℕ) → Q n → n < k) → (r : Option ℕ) → MatchOption r ((n : ℕ) → 0 ≤ n → n < k → Q n → ⊥) (λ n. (0 ≤ n) × (n < k) × Q n × ((m : ℕ) → 0 ≤ m → m < n → Q m → ⊥)) → LowestBy one Q r
  lowest_first within None none = λ n so. none n (omega arith) (within n so) so
  lowest_first within (Some n) found = (found.2, λ m so. elim (cases_order m n) [ inl same ↦ inr (sym same, tt) | inr o ↦ elim o [ inl low ↦ absurd (found.3 m (omega arith) low so) | inr high ↦ inl high ] ])

  -- the place after as many others
  pub place_first : ((p : ℕ) → Q p → (0 < p) × (p ≤ k)) → (r : Option ℕ) → MatchOption r ((i : ℕ) → i < k → Q (i + 1) → ⊥) (λ i. (i < k) × Q (i + 1) × ((j : ℕ) → j < i → Q (j + 1) → ⊥)) → LowestBy one Q (option_map (λ i. i + 1) r)
  place_first within None none = λ p so. none (p - 1) (omega (arith, within p so)) (subst Q (omega (arith, (within p so).0)) so)
  place_first within (Some i) found = (found.1, λ p so. elim (cases_order p (i + 1)) [ inl same ↦ inr (sym same, tt) | inr o ↦ elim o [ inl low ↦ absurd (lower p so low) | inr high ↦ inl high ] ])
    where
      lower : (p : ℕ) → Q p → p < i + 1 → ⊥
      lower p so low = found.2 (p - 1) (omega (arith, (within p so).0)) (subst Q (omega (arith, (within p so).0)) so)

-- what the first number gives, where each gives the lowest that has it as its key
module _ {X : Type 0} (row : X → List ℕ) (Wanted : X → Type 0) (key : X → ℕ) (n : ℕ) (At : ℕ → X → Type 0) (at : (x : X) → Wanted x → (key x < n) × At (key x) x) (wanted : (k : ℕ) (x : X) → k < n → At k x → Wanted x × (key x ≡ k)) (order : (x y : X) → Wanted x → Wanted y → key x < key y → NoLater (row x) (row y)) where
  pub lowest_by_key : (r : Option X) → FirstGiven n (λ k. LowestBy row (At k)) r → LowestBy row Wanted r
  lowest_by_key None none = λ x so. none (key x) (at x so).0 x (at x so).1
  lowest_by_key (Some x) (k, below, low, before) = ((wanted k x below low.0).0, first)
    where
      first : (y : X) → Wanted y → NoLater (row x) (row y)
      first y so = elim (cases_order (key y) k) [
        | inl same ↦ low.1 y (subst (λ j. At j y) same (at y so).1)
        | inr o ↦ elim o [ inl less ↦ absurd (before (key y) less y (at y so).1) | inr more ↦ order x y (wanted k x below low.0).0 so (omega (arith, (wanted k x below low.0).1)) ]
      ]
