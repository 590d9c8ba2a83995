-- Marks, as which facts stand by them. Assumes nothing.
use Rattle.std.proofs.Common.{◌≡◌, ℕ, zero, suc, ◌+◌, ◌-◌, ◌<◌, ◌≤◌, Bool, true, false, cond, not, ◌⊎◌, List, length, get_or, set, replicate, sym, refl, ap, ◌∙◌, subst, inl, inr, add-one, arith}
use mathlib.Core.Path.{fun_ext}
use mathlib.Core.Bool.{beq}
use Rattle.std.proofs.lemmas.List.{get_or_past, get_or-replicate}
use Rattle.std.proofs.lemmas.Bool.{cases_eq, cases_lt}
use Rattle.std.proofs.lemmas.Bool.Decides.{nat_tests}
use Rattle.std.proofs.lemmas.Grind.{common_steps}
use Rattle.std.specs.Cmp.{booleans_Decides}
use Rattle.formulas.specs.Truth.{stands_in}
use Rattle.walkthroughs.specs.declared.marks.Marks.{Marks}
use Rattle.walkthroughs.specs.Depots.{State}
use Rattle.walkthroughs.specs.Marks.{moved_to, none_stand, standing, turned}
use Rattle.walkthroughs.specs.Steps.{changed}

-- a number that no mark has does not stand
pub stands_outside : (m : Marks) (n : ℕ) → (n ≡ 0) ⊎ (128 < n) → standing m n ≡ false
unfolding standing
stands_outside m n out = grind (arith, nat_tests)

-- a mark
pub stands_inside : (m : Marks) (n : ℕ) → (n ≡ 0 → ⊥) → n ≤ 128 → standing m n ≡ get_or m.on (n - 1) false
unfolding standing
stands_inside m n some within = grind (arith, nat_tests)

-- the row of the marks, as long as it is
pub row-stands : (m : Marks) (n : ℕ) → length m.on ≡ 128 → stands_in m.on n ≡ standing m n
unfolding standing
row-stands m n long = grind (arith, nat_tests, get_or_past)

-- a state by its numbers inside and outside the marks
by_mark : (s t : State) → ((n : ℕ) → (n ≡ 0) ⊎ (128 < n) → s n ≡ t n) → ((n : ℕ) → (n ≡ 0 → ⊥) → n ≤ 128 → s n ≡ t n) → s ≡ t
by_mark s t out within = fun_ext (λ n. elim (cases_eq n 0) [ inl z ↦ out n (inl z) | inr some ↦ elim (cases_lt 128 n) [ inl over ↦ out n (inr over) | inr low ↦ within n some low ] ])

pub none-stand : (m : Marks) → m.on ≡ replicate 128 false → standing m ≡ none_stand
none-stand m is = by_mark (standing m) none_stand (stands_outside m) (λ n some within. stands_inside m n some within ∙ rw is (get_or-replicate 128 (n - 1) false false (omega arith)))

pub turned-mark : (m after : Marks) (n : ℕ) → (n ≡ 0 → ⊥) → n ≤ 128 → length m.on ≡ 128 → after.on ≡ set m.on (n - 1) (not (get_or m.on (n - 1) false)) → standing after ≡ turned (standing m) n
turned-mark m after n some within long is = by_mark (standing after) (turned (standing m) n) out inside
  where
    out : (k : ℕ) → (k ≡ 0) ⊎ (128 < k) → standing after k ≡ turned (standing m) n k
    out k o = let a = stands_outside after k o in let b = stands_outside m k o in grind (arith, nat_tests)

    inside : (k : ℕ) → (k ≡ 0 → ⊥) → k ≤ 128 → standing after k ≡ turned (standing m) n k
    inside k given low = let a = stands_inside after k given low in let b = stands_inside m k given low in let c = stands_inside m n some within in grind (arith, nat_tests, common_steps)

-- facts moved to where they are to stand, one after the other
module _ (s t : State) where
  pub moved_none : (u : State) → u ≡ s → u ≡ moved_to 0 s t
  moved_none u is = is ∙ fun_ext (λ f. grind (arith, nat_tests))

  not_yet : (i : ℕ) → moved_to i s t (i + 1) ≡ s (i + 1)
  not_yet i = grind (arith, nat_tests)

  pub moved_on : (i : ℕ) (u : State) → u ≡ moved_to i s t → s (i + 1) ≡ t (i + 1) → u ≡ moved_to (i + 1) s t
  moved_on i u is same = is ∙ fun_ext (λ f. grind (arith, nat_tests))

  pub moved_turn : (i : ℕ) (u v : State) → i < 128 → u ≡ moved_to i s t → v ≡ turned u (i + 1) → not (s (i + 1)) ≡ t (i + 1) → v ≡ moved_to (i + 1) s t
  moved_turn i u v within is turn other = turn ∙ fun_ext (λ f. let was : u f ≡ moved_to i s t f = ap (λ x. x f) is in grind (arith, nat_tests))

  -- how many were turned
  counts : (i : ℕ) → changed (i + 1) s t ≡ cond (beq (s (i + 1)) (t (i + 1))) 0 1 + changed i s t
  unfolding changed
  counts i = at_suc (i + 1) (add-one i)
    where
      at_suc : (k : ℕ) → k ≡ suc i → changed k s t ≡ cond (beq (s k) (t k)) 0 1 + changed i s t
      at_suc k e = subst (λ j. changed j s t ≡ cond (beq (s j) (t j)) 0 1 + changed i s t) (sym e) refl

  pub changed-none : 0 ≡ changed 0 s t
  unfolding changed
  changed-none = refl

  pub changed-same : (i n : ℕ) → n ≡ changed i s t → s (i + 1) ≡ t (i + 1) → n ≡ changed (i + 1) s t
  changed-same i n is same = let one = counts i in let equal = (booleans_Decides (s (i + 1)) (t (i + 1))).1 same in grind arith

  pub changed-other : (i n : ℕ) → n ≡ changed i s t → not (s (i + 1)) ≡ t (i + 1) → n + 1 ≡ changed (i + 1) s t
  changed-other i n is other = let one = counts i in let unequal = booleans_Decides (s (i + 1)) (t (i + 1)) in grind arith

  -- a fact that was found to stand otherwise than it is to, or as it is to
  module _ (i : ℕ) (u : State) (b v : Bool) (is : u ≡ moved_to i s t) (at : b ≡ u (i + 1)) (wanted : v ≡ t (i + 1)) where
    was : b ≡ s (i + 1)
    was = at ∙ ap (λ x. x (i + 1)) is ∙ not_yet i

    pub told-other : not (beq b v) ≡ true → not (s (i + 1)) ≡ t (i + 1)
    told-other other = let w = was in let unequal = booleans_Decides b v in grind arith

    pub told_same : not (beq b v) ≡ false → s (i + 1) ≡ t (i + 1)
    told_same same = let w = was in let equal = booleans_Decides b v in grind arith

-- a mark in a row by its number
pub stands_at : (row : List Bool) (i : ℕ) → get_or row i false ≡ stands_in row (i + 1)
stands_at row i = grind (arith, nat_tests)

-- a row with no mark
pub empty-row : (f : ℕ) → stands_in (replicate 128 false) f ≡ false
empty-row zero = refl
empty-row (suc i) = elim (cases_lt (suc i - 1) 128) [ inl within ↦ let none = get_or-replicate 128 (suc i - 1) false false within in grind arith | inr past ↦ let none = get_or_past (replicate 128 false) (suc i - 1) false past in grind arith ]
