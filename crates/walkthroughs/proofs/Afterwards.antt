-- Rows put together mark by mark, and what sets of moves do. Assumes nothing.
use Rattle.std.proofs.Common.{◌≡◌, ℕ, zero, suc, ◌+◌, ◌/◌, ◌%◌, ◌^◌, ◌<◌, ◌≤◌, Bool, true, false, cond, not, ◌&&◌, ◌||◌, eqb, List, [], ◌∷◌, length, get_or, drop, sym, refl, ap, ◌∙◌, inl, inr, add-one, arith}
use mathlib.Core.Path.{fun_ext}
use Rattle.std.proofs.Math.Bool.{and-false, and-true, or-false, or_assoc}
use Rattle.std.proofs.Math.Nat.{div-one}
use Rattle.std.proofs.lemmas.List.{drop_all, drop_more, get_or_past}
use Rattle.std.proofs.lemmas.Bool.Decides.{nat_tests}
use Rattle.std.proofs.lemmas.Bool.{cases_lt}
use Rattle.formulas.specs.Truth.{stands_in}
use Rattle.walkthroughs.specs.declared.firing.Outcome.{Outcome}
use Rattle.walkthroughs.specs.Depots.{Depot}
use Rattle.std.specs.List.{list_any}
use Rattle.walkthroughs.specs.Firing.{after, fired, fired_by}
use Rattle.walkthroughs.specs.Outcomes.{AreOutcomes, Together, left_by, left_of, picked}
use Rattle.walkthroughs.specs.Sets.{chosen, in_set}
use Rattle.walkthroughs.proofs.Counts.{any-joined}
use Rattle.walkthroughs.proofs.Subsets.{digit-shifted, halved}

-- a row by its marks, where it and what it is made of have 128
pub joined-rows : (row more after : List Bool) → length row ≡ 128 → length more ≡ 128 → length after ≡ 128 → ((k : ℕ) → k < 128 → get_or after k false ≡ (get_or row k false || get_or more k false)) → (f : ℕ) → stands_in after f ≡ (stands_in row f || stands_in more f)
joined-rows row more after long as_long longer filled zero = refl
joined-rows row more after long as_long longer filled (suc k) = elim (cases_lt k 128) [ inl below ↦ let mark = filled k below in grind (arith, nat_tests) | inr over ↦ grind (arith, nat_tests, get_or_past) ]

pub left-row : (start after : List Bool) (o : Outcome) → length start ≡ 128 → length o.adds ≡ 128 → length after ≡ 128 → ((k : ℕ) → k < 128 → get_or after k false ≡ (get_or o.adds k false || (get_or start k false && not (get_or o.removes k false)))) → stands_in after ≡ left_by start o
left-row start after o long adds-long longer filled = fun_ext by_number
  where
    by_number : (f : ℕ) → stands_in after f ≡ left_by start o f
    by_number zero = refl
    by_number (suc k) = elim (cases_lt k 128) [ inl below ↦ let mark = filled k below in grind (arith, nat_tests) | inr over ↦ grind (arith, nat_tests, get_or_past) ]

-- what is left of a fact, by answers that are the same
pub left-told : (t a p o r A S R : Bool) → t ≡ (a || (p && o)) → a ≡ A → p ≡ S → o ≡ not r → r ≡ R → t ≡ (A || (S && not R))
left-told t a p o r A S R is adds stood kept removed = is ∙ ap (λ x. x || (p && o)) adds ∙ ap (λ x. A || (x && o)) stood ∙ ap (λ x. A || (S && x)) (kept ∙ ap not removed)

-- what is left of a set gives the whole
module _ (P : Outcome → Bool) (outcomes : List Outcome) (number : ℕ) where
  abbrev pub Uniting : Bool → ℕ → Type 0
  Uniting sofar i = (sofar || list_any P (picked (number / 2 ^ i) (drop i outcomes))) ≡ list_any P (picked number outcomes)

  pub unite_none : (sofar : Bool) → sofar ≡ false → Uniting sofar 0
  unite_none sofar none = ap (λ b. b || list_any P (picked (number / 1) outcomes)) none ∙ ap (λ n. list_any P (picked n outcomes)) (div-one number)

  pub unite_all : (sofar : Bool) (i : ℕ) → length outcomes ≤ i → Uniting sofar i → sofar ≡ list_any P (picked number outcomes)
  unite_all sofar i end now = sym (or-false sofar) ∙ ap (λ l. sofar || list_any P (picked (number / 2 ^ i) l)) (sym (drop_all i outcomes end)) ∙ now

  module _ (sofar next : Bool) (i : ℕ) (o : Outcome) (within : i < length outcomes) (is : o ≡ get_or outcomes i o) (now : Uniting sofar i) where
    abbrev rest : List Outcome
    rest = picked (number / 2 ^ (i + 1)) (drop (i + 1) outcomes)

    here : (b : Bool) → b ≡ in_set number (i + 1) → (sofar || list_any P (cond b (o ∷ rest) rest)) ≡ list_any P (picked number outcomes)
    here b told =
        ap (λ t. sofar || list_any P (cond t (o ∷ rest) rest)) (told ∙ ap (in_set number) (add-one i) ∙ digit-shifted number i)
        ∙ ap (λ n. sofar || list_any P (cond (eqb (number / 2 ^ i % 2) 1) (o ∷ picked n (drop (i + 1) outcomes)) (picked n (drop (i + 1) outcomes)))) (sym (halved number i))
        ∙ ap (λ x. sofar || list_any P (picked (number / 2 ^ i) (x ∷ drop (i + 1) outcomes))) is
        ∙ ap (λ l. sofar || list_any P (picked (number / 2 ^ i) l)) (sym (drop_more outcomes i o within))
        ∙ now

    pub unite_more : (b : Bool) → b ≡ in_set number (i + 1) → b ≡ true → next ≡ (sofar || P o) → Uniting next (i + 1)
    unite_more b told inside more = ap (λ n. n || list_any P rest) more ∙ or_assoc sofar (P o) (list_any P rest) ∙ here true (sym inside ∙ told)

    pub unite_on : (b : Bool) → b ≡ in_set number (i + 1) → b ≡ false → next ≡ sofar → Uniting next (i + 1)
    unite_on b told outside same = ap (λ n. n || list_any P rest) same ∙ here false (sym outside ∙ told)

    -- one more, if it is of the set
    pub unite_turn : (b : Bool) → b ≡ in_set number (i + 1) → next ≡ (sofar || (P o && b)) → Uniting next (i + 1)
    unite_turn true told is = unite_more true told refl (is ∙ ap (λ x. sofar || x) (and-true (P o)))
    unite_turn false told is = unite_on false told refl (is ∙ ap (λ x. sofar || x) (and-false (P o)) ∙ or-false sofar)

-- what the outcomes of a set do is what its moves do
module _ (P : Outcome → Bool) (Q : ℕ → Bool) where
  abbrev Agree : List ℕ → List Outcome → Type 0
  Agree [] outcomes = outcomes ≡ []
  Agree (m ∷ moves) [] = ⊥
  Agree (m ∷ moves) (o ∷ outcomes) = (P o ≡ Q m) × Agree moves outcomes

  picked-chosen : (n : ℕ) (moves : List ℕ) (outcomes : List Outcome) → Agree moves outcomes → list_any P (picked n outcomes) ≡ list_any Q (chosen n moves)
  picked-chosen n [] outcomes none = ap (λ l. list_any P (picked n l)) none
  picked-chosen n (m ∷ moves) [] none = absurd none
  picked-chosen n (m ∷ moves) (o ∷ outcomes) each = by_first (eqb (n % 2) 1) (picked-chosen (n / 2) moves outcomes each.1)
    where
      by_first : (t : Bool) → list_any P (picked (n / 2) outcomes) ≡ list_any Q (chosen (n / 2) moves) → list_any P (cond t (o ∷ picked (n / 2) outcomes) (picked (n / 2) outcomes)) ≡ list_any Q (cond t (m ∷ chosen (n / 2) moves) (chosen (n / 2) moves))
      by_first true later = ap (λ b. b || list_any P (picked (n / 2) outcomes)) each.0 ∙ ap (λ b. Q m || b) later
      by_first false later = later

module _ (d : Depot) (start : List Bool) where
  adding-agrees : (f : ℕ) (moves : List ℕ) (outcomes : List Outcome) → AreOutcomes d (stands_in start) moves outcomes → Agree (λ x. stands_in x.adds f) (λ m. list_any (λ g. d.carries g f) (fired_by d (stands_in start) (λ e. e.settings) m)) moves outcomes
  adding-agrees f [] outcomes are = are
  adding-agrees f (m ∷ moves) [] are = are
  adding-agrees f (m ∷ moves) (o ∷ outcomes) are = (are.0.adds f, adding-agrees f moves outcomes are.1)

  removing-agrees : (f : ℕ) (moves : List ℕ) (outcomes : List Outcome) → AreOutcomes d (stands_in start) moves outcomes → Agree (λ x. stands_in x.removes f) (λ m. list_any (λ g. d.carries f g) (fired_by d (stands_in start) (λ e. e.strikes) m)) moves outcomes
  removing-agrees f [] outcomes are = are
  removing-agrees f (m ∷ moves) [] are = are
  removing-agrees f (m ∷ moves) (o ∷ outcomes) are = (are.0.removes f, removing-agrees f moves outcomes are.1)

  -- the facts after a set of the moves
  pub after-left : (moves : List ℕ) (outcomes : List Outcome) (number : ℕ) → AreOutcomes d (stands_in start) moves outcomes → left_of start outcomes number ≡ after d (stands_in start) (chosen number moves)
  unfolding after
  after-left moves outcomes number are = fun_ext (λ f.
      ap (λ b. b || (stands_in start f && not (list_any (λ o. stands_in o.removes f) (picked number outcomes)))) (picked-chosen _ _ number moves outcomes (adding-agrees f moves outcomes are) ∙ sym (any-joined (λ g. d.carries g f) (fired_by d (stands_in start) (λ e. e.settings)) (chosen number moves)))
      ∙ ap (λ b. list_any (λ g. d.carries g f) (fired d (stands_in start) (λ e. e.settings) (chosen number moves)) || (stands_in start f && not b)) (picked-chosen _ _ number moves outcomes (removing-agrees f moves outcomes are) ∙ sym (any-joined (λ g. d.carries f g) (fired_by d (stands_in start) (λ e. e.strikes)) (chosen number moves))))

  together-left : (outcomes : List Outcome) (number : ℕ) (o : Outcome) → Together (picked number outcomes) o → left_by start o ≡ left_of start outcomes number
  together-left outcomes number o all = fun_ext (λ f. ap (λ b. b || (stands_in start f && not (stands_in o.removes f))) (all.adds f) ∙ ap (λ b. list_any (λ x. stands_in x.adds f) (picked number outcomes) || (stands_in start f && not b)) (all.removes f))

  pub after-chosen : (moves : List ℕ) (outcomes : List Outcome) (number : ℕ) (o : Outcome) → AreOutcomes d (stands_in start) moves outcomes → Together (picked number outcomes) o → left_by start o ≡ after d (stands_in start) (chosen number moves)
  after-chosen moves outcomes number o are all = together-left outcomes number o all ∙ after-left moves outcomes number are
