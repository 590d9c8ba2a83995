-- The search for a disturbance: sets, places outside them, and parts. Assumes nothing.
use Rattle.std.proofs.Common.{◌≡◌, ℕ, ◌+◌, ◌-◌, ◌*◌, ◌%◌, ◌^◌, ◌<◌, ◌≤◌, List, length, get_or, Some, None, Option, sym, refl, ap, ◌∙◌, subst, inl, inr, arith}
use Rattle.std.specs.Option.{MatchOption}
use Rattle.std.proofs.Math.Nat.{mod-eq_of_lt}
use Rattle.std.proofs.Math.Pow.{pow_mono}
use Rattle.std.proofs.lemmas.Bool.{cases_lt}
use Rattle.walkthroughs.specs.declared.disturbance.Disturbance.{Disturbance}
use Rattle.walkthroughs.specs.Depots.{Depot, State, move_of, reads}
use Rattle.walkthroughs.specs.Disturbance.{OtherAt, Otherwise, SetDisturbs, move_at}
use Rattle.walkthroughs.specs.Searching.{DisturbsAt, DisturbsBy, LowestBy, one, row_of}
use Rattle.walkthroughs.proofs.Placewise.{move_at-next}
use Rattle.walkthroughs.proofs.Mapped.{FirstGiven}
use Rattle.walkthroughs.proofs.Searched.{lowest_by_key, lowest_first}
use Rattle.walkthroughs.proofs.Walking.{never_both, reads-past}

-- the parts of a move
module _ (d : Depot) (s t : State) (m : ℕ) where
  -- the first of the parts 0 to k - 1 that reads otherwise
  abbrev pub FirstOther : ℕ → Option ℕ → Type 0
  FirstOther k r = MatchOption r ((e : ℕ) → 0 ≤ e → e < k → reads d t m e ≡ reads d s m e) (λ e. (0 ≤ e) × (e < k) × Otherwise d s t m e × ((before : ℕ) → 0 ≤ before → before < e → reads d t m before ≡ reads d s m before))

  -- it is the lowest of all, since parts that a move lacks read alike
  pub part_first : (k : ℕ) → k ≡ length (move_of d m).effects + 1 → (r : Option ℕ) → FirstOther k r → LowestBy one (Otherwise d s t m) r
  part_first k count r first = lowest_first (Otherwise d s t m) k within r (unlike r first)
    where
      within : (e : ℕ) → Otherwise d s t m e → e < k
      within e other = elim (cases_lt e k) [ inl low ↦ low | inr high ↦ absurd (never_both _ _ (reads-past d t m e (omega arith) ∙ sym (reads-past d s m e (omega arith))) other) ]

      unlike : (r : Option ℕ) → FirstOther k r → MatchOption r ((e : ℕ) → 0 ≤ e → e < k → Otherwise d s t m e → ⊥) (λ e. (0 ≤ e) × (e < k) × Otherwise d s t m e × ((before : ℕ) → 0 ≤ before → before < e → Otherwise d s t m before → ⊥))
      unlike None alike = λ e from below other. never_both _ _ (alike e from below) other
      unlike (Some e) found = (found.0, found.1, found.2, λ before from below other. never_both _ _ (found.3 before from below) other)

-- the places outside a set
module _ (d : Depot) (s t : State) (moves : List ℕ) (set : ℕ) where
  abbrev Disturbs : Disturbance → Type 0
  Disturbs x = (x.set ≡ set) × OtherAt d s t moves set x.place x.part

  abbrev At : ℕ → Disturbance → Type 0
  At i = DisturbsAt d s t set (i + 1) (get_or moves i 0)

  at_its_place : (x : Disturbance) → Disturbs x → (x.place - 1 < length moves) × At (x.place - 1) x
  at_its_place x (same, other) =
      let here : x.place ≡ x.place - 1 + 1 = omega (arith, other.placed.0) in
      (omega (arith, other.placed.0, other.placed.1), (same, here, other.outside, subst (λ m. Otherwise d s t m x.part) (ap (move_at moves) here ∙ move_at-next moves (x.place - 1)) other.otherwise))

  disturbs_there : (i : ℕ) (x : Disturbance) → i < length moves → At i x → Disturbs x × (x.place - 1 ≡ i)
  disturbs_there i x below (same, here, outside, other) = ((same, record { placed = (omega (arith, here), omega (arith, here)); outside = outside; otherwise = subst (λ m. Otherwise d s t m x.part) (sym (ap (move_at moves) here ∙ move_at-next moves i)) other }), omega (arith, here))

  -- the disturbance at the first of them that has one is the lowest
  pub outside_first : (r : Option Disturbance) → FirstGiven (length moves) (λ i. LowestBy row_of (At i)) r → LowestBy row_of (λ x. (x.set ≡ set) × OtherAt d s t moves set x.place x.part) r
  outside_first = lowest_by_key row_of Disturbs (λ x. x.place - 1) (length moves) At at_its_place disturbs_there (λ x y a b less. inr (a.0 ∙ sym b.0, inl (omega arith)))

-- at the state that the moves of the set leave
pub by_set : (d : Depot) (s t u : State) (moves : List ℕ) (set : ℕ) (r : Option Disturbance) → t ≡ u → LowestBy row_of (λ x. (x.set ≡ set) × OtherAt d s t moves set x.place x.part) r → LowestBy row_of (λ x. (x.set ≡ set) × OtherAt d s u moves set x.place x.part) r
by_set d s t u moves set r is = subst (λ v. LowestBy row_of (λ x. (x.set ≡ set) × OtherAt d s v moves set x.place x.part) r) is

-- how many sets there are: few enough that their number is not cut off
pub sets_fit : (n : ℕ) → n ≤ 8 → 1 * 2 ^ n % 2 ^ 64 ≡ 2 ^ n
sets_fit n few =
    let most : 2 ^ n ≤ 2 ^ 8 = pow_mono few in
    ap (λ k. k % 2 ^ 64) (omega arith) ∙ mod-eq_of_lt (omega (arith, most))

pub most_sets : (n : ℕ) → n ≤ 8 → 1 * 2 ^ n % 2 ^ 64 ≤ 256
most_sets n few =
    let most : 2 ^ n ≤ 2 ^ 8 = pow_mono few in
    omega (arith, sets_fit n few, most)

-- the sets of places
module _ (d : Depot) (s : State) (moves : List ℕ) (k : ℕ) (count : k ≡ 2 ^ length moves) where
  by_its_set : (x : Disturbance) → SetDisturbs d s moves x.set x.place x.part → DisturbsBy d s moves x.set x
  by_its_set x dis = (refl, record { placed = dis.placed; outside = dis.outside; otherwise = dis.otherwise })

  disturbs : (set : ℕ) (x : Disturbance) → set < k → DisturbsBy d s moves set x → SetDisturbs d s moves x.set x.place x.part
  disturbs set x known by = subst (λ n. SetDisturbs d s moves n x.place x.part) (sym by.0) (record { known = omega arith; placed = by.1.placed; outside = by.1.outside; otherwise = by.1.otherwise })

  -- the lowest disturbance by the first of them that has one is the lowest of all
  pub set_first : (r : Option Disturbance) → FirstGiven k (λ set. LowestBy row_of (DisturbsBy d s moves set)) r → LowestBy row_of (λ x. SetDisturbs d s moves x.set x.place x.part) r
  set_first = lowest_by_key row_of (λ x. SetDisturbs d s moves x.set x.place x.part) (λ x. x.set) k (DisturbsBy d s moves) (λ x dis. (omega (arith, dis.known), by_its_set x dis)) (λ set x known by. (disturbs set x known by, by.0)) (λ x y a b less. inl less)
