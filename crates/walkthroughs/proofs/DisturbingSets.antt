-- Which sets of places disturb, by the answer and by what is asked. Assumes nothing.
use Rattle.std.proofs.Common.{◌≡◌, ℕ, zero, suc, ◌+◌, ◌-◌, ◌<◌, ◌≤◌, Bool, true, false, cond, not, ◌||◌, ◌⊎◌, List, length, get_or, Some, None, Option, sym, refl, ap, ◌∙◌, subst, inl, inr, add-one, arith}
use Rattle.std.specs.Option.{MatchOption}
use Rattle.std.proofs.lemmas.Bool.{and_cases, and_parts, cases_eq, cases_lt, or_cases, or_parts}
use Rattle.walkthroughs.specs.declared.disturbance.Disturbance.{Disturbance}
use Rattle.walkthroughs.specs.Depots.{Depot, State, move_of, reads}
use Rattle.walkthroughs.specs.Disturbance.{Otherwise, move_at}
use Rattle.walkthroughs.specs.DisturbingSets.{disturbs, some_below, some_part_other}
use Rattle.walkthroughs.specs.Firing.{after}
use Rattle.walkthroughs.specs.Searching.{DisturbsBy, LowestBy, row_of}
use Rattle.walkthroughs.specs.SetRows.{has}
use Rattle.walkthroughs.specs.Sets.{chosen, in_set}
use Rattle.walkthroughs.proofs.Mapped.{FirstGiven}
use Rattle.walkthroughs.proofs.Placewise.{move_at-next}
use Rattle.walkthroughs.proofs.Walking.{never_both, reads-past}

module _ (test : ℕ → Bool) where
  pub some_none : some_below 0 test ≡ false
  unfolding some_below
  some_none = refl

  pub some_more : (n : ℕ) → some_below (n + 1) test ≡ (some_below n test || test n)
  unfolding some_below
  some_more n = ap (λ k. some_below k test) (add-one n)

  some_found : (n : ℕ) → some_below n test ≡ true → (i : ℕ) × (i < n) × (test i ≡ true)
  unfolding some_below
  some_found zero h = absurd (never_both true false (sym h) refl)
  some_found (suc n) h = elim (or_cases (some_below n test) (test n) h) [ inl k ↦ (let found = some_found n k in (found.0, omega (arith, found.1), found.2)) | inr k ↦ (n, omega arith, k) ]

  none_found : (n : ℕ) → some_below n test ≡ false → (i : ℕ) → i < n → test i ≡ false
  unfolding some_below
  none_found zero h i low = absurd (omega (arith, low))
  none_found (suc n) h i low = elim (cases_eq i n) [ inl here ↦ rw here (or_parts (some_below n test) (test n) h).1 | inr apart ↦ none_found n (or_parts (some_below n test) (test n) h).0 i (omega arith) ]

-- two answers that differ, and two that do not
differ : (a b : Bool) → cond a (not b) b ≡ true → b ≡ not a
differ true true h = sym h
differ true false h = refl
differ false b h = h

agree : (a b : Bool) → cond a (not b) b ≡ false → b ≡ a
agree true true h = refl
agree true false h = sym h
agree false b h = h

module _ (d : Depot) (s t : State) (m : ℕ) where
  abbrev count : ℕ
  count = length (move_of d m).effects + 1

  other_found : some_part_other d s t m ≡ true → (e : ℕ) × Otherwise d s t m e
  other_found h = let found = some_found _ count h in (found.0, differ (reads d s m found.0) (reads d t m found.0) found.2)

  none_other : some_part_other d s t m ≡ false → (e : ℕ) → Otherwise d s t m e → ⊥
  none_other h e other = never_both (reads d t m e) (reads d s m e) (alike (cases_lt e count)) other
    where
      alike : (e < count) ⊎ (count ≤ e) → reads d t m e ≡ reads d s m e
      alike (inl low) = agree (reads d s m e) (reads d t m e) (none_found _ count h e low)
      alike (inr past) = reads-past d t m e (omega (arith, past)) ∙ sym (reads-past d s m e (omega (arith, past)))

module _ (d : Depot) (s : State) (moves : List ℕ) where
  -- a set that disturbs
  disturbance_by : (set : ℕ) → disturbs d s moves set (length moves) ≡ true → (x : Disturbance) × DisturbsBy d s moves set x
  disturbance_by set h =
      let found = some_found _ (length moves) h in
      let i = found.0 in
      let both = and_parts _ _ found.2 in
      let other = other_found d s (after d s (chosen set moves)) (get_or moves i 0) both.0 in (
        record { set = set; place = i + 1; part = other.0 },
        (
          refl,
          record {
            placed = (omega arith, omega (arith, found.1));
            outside = opposite (in_set set (i + 1)) both.1;
            otherwise = subst (λ m. Otherwise d s (after d s (chosen set moves)) m other.0) (sym (move_at-next moves i)) other.1;
          },
        ),
      )
    where
      opposite : (b : Bool) → not b ≡ true → b ≡ false
      opposite true h = sym h
      opposite false h = refl

  -- a set that does not
  pub no_disturbance : (set : ℕ) → disturbs d s moves set (length moves) ≡ false → (x : Disturbance) → DisturbsBy d s moves set x → ⊥
  no_disturbance set h x (same, dis) =
      let i = x.place - 1 in
      let here : x.place ≡ i + 1 = omega (arith, dis.placed.0) in
      let calm = none_found _ (length moves) h i (omega (arith, dis.placed.0, dis.placed.1)) in
      let other : Otherwise d s (after d s (chosen set moves)) (get_or moves i 0) x.part = subst (λ m. Otherwise d s (after d s (chosen set moves)) m x.part) (ap (move_at moves) here ∙ move_at-next moves i) dis.otherwise in
      elim (and_cases _ _ calm) [
        | inl none ↦ none_other d s (after d s (chosen set moves)) (get_or moves i 0) none x.part other
        | inr inside ↦ never_both (not (in_set set (i + 1))) true (ap (λ p. not (in_set set p)) (sym here) ∙ ap not dis.outside) inside
      ]

  -- the lowest disturbance by the first set that a row has, as that of the first set which gives one
  module _ (row : List ℕ) (k : ℕ) (few : k ≤ 256) (tells : (set : ℕ) → set < 256 → has row set ≡ disturbs d s moves set (length moves)) where
    abbrev pub FirstHad : Option ℕ → Type 0
    FirstHad r = MatchOption r ((n : ℕ) → 0 ≤ n → n < k → has row n ≡ false) (λ n. (0 ≤ n) × (n < k) × (has row n ≡ true) × ((before : ℕ) → 0 ≤ before → before < n → has row before ≡ false))

    calm : (set : ℕ) → set < k → has row set ≡ false → (x : Disturbance) → DisturbsBy d s moves set x → ⊥
    calm set below none = no_disturbance set (sym (tells set (omega (arith, below, few))) ∙ none)

    pub none_had : FirstHad None → FirstGiven k (λ n. LowestBy row_of (DisturbsBy d s moves n)) None
    none_had none = λ set below. calm set below (none set (omega arith) below)

    pub first_had : (set : ℕ) (r : Option Disturbance) → FirstHad (Some set) → LowestBy row_of (DisturbsBy d s moves set) r → FirstGiven k (λ n. LowestBy row_of (DisturbsBy d s moves n)) r
    first_had set None (least, below, had, before) low = absurd (let x = disturbance_by set (sym (tells set (omega (arith, below, few))) ∙ had) in low x.0 x.1)
    first_had set (Some x) (least, below, had, before) low = (set, below, low, λ m less. calm m (omega (arith, below, less)) (before m (omega arith) less))
