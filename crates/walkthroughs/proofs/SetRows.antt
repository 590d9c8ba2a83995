-- Rows over sets of places. Assumes nothing.
use Rattle.std.proofs.Common.{◌≡◌, ℕ, zero, suc, ◌-◌, ◌/◌, ◌%◌, ◌^◌, ◌<◌, ◌≤◌, max, min, Bool, true, false, not, ◌&&◌, ◌||◌, eqb, List, [], ◌∷◌, ◌⊎◌, get_or, Bor, Some, None, Option, MatchOption, sym, refl, ap, ◌∙◌, inl, inr, arith, bit_and, bit_or, w64}
use Rattle.std.specs.Bool.{beq}
use Rattle.std.specs.Int.{bit_not}
use Rattle.std.specs.List.{slice_get}
use Rattle.std.specs.Option.{option_map, unwrap_or}
use Rattle.std.proofs.lemmas.Bool.{and_parts, cases_eq, cases_lt}
use Rattle.std.proofs.lemmas.Nat.Bits.{bit_at_and, bit_at_or, bit_at_not, bit_at_ones, bit_at-zero}
use Rattle.std.proofs.lemmas.Option.{unwrap_or-slice_get}
use Rattle.walkthroughs.specs.SetRows.{has}
use Rattle.walkthroughs.specs.Sets.{digit, in_set}
use Rattle.walkthroughs.proofs.Subsets.{digit-past, digit-shifted}

either-bit : (x y : ℕ) → x < 2 → y < 2 → eqb (max x y) 1 ≡ (eqb x 1 || eqb y 1)
either-bit zero zero p q = refl
either-bit zero (suc zero) p q = refl
either-bit (suc zero) zero p q = refl
either-bit (suc zero) (suc zero) p q = refl
either-bit zero (suc (suc y)) p q = absurd (omega (arith, q))
either-bit (suc zero) (suc (suc y)) p q = absurd (omega (arith, q))
either-bit (suc (suc x)) y p q = absurd (omega (arith, p))

both-bits : (x y : ℕ) → x < 2 → y < 2 → eqb (min x y) 1 ≡ (eqb x 1 && eqb y 1)
both-bits zero zero p q = refl
both-bits zero (suc zero) p q = refl
both-bits (suc zero) zero p q = refl
both-bits (suc zero) (suc zero) p q = refl
both-bits zero (suc (suc y)) p q = absurd (omega (arith, q))
both-bits (suc zero) (suc (suc y)) p q = absurd (omega (arith, q))
both-bits (suc (suc x)) y p q = absurd (omega (arith, p))

other-bit : (x : ℕ) → x < 2 → eqb (1 - x) 1 ≡ not (eqb x 1)
other-bit zero p = refl
other-bit (suc zero) p = refl
other-bit (suc (suc x)) p = absurd (omega (arith, p))

-- the digits of words that are put together
module _ (a b k : ℕ) where
  digit_or : digit (bit_or a b) k ≡ (digit a k || digit b k)
  digit_or =
      digit-shifted (bit_or a b) k ∙ ap (λ x. eqb x 1) (bit_at_or a b k) ∙ either-bit (a / 2 ^ k % 2) (b / 2 ^ k % 2) (omega arith) (omega arith)
      ∙ ap (λ t. t || eqb (b / 2 ^ k % 2) 1) (sym (digit-shifted a k)) ∙ ap (λ t. digit a k || t) (sym (digit-shifted b k))

  digit_and : digit (bit_and a b) k ≡ (digit a k && digit b k)
  digit_and =
      digit-shifted (bit_and a b) k ∙ ap (λ x. eqb x 1) (bit_at_and a b k) ∙ both-bits (a / 2 ^ k % 2) (b / 2 ^ k % 2) (omega arith) (omega arith)
      ∙ ap (λ t. t && eqb (b / 2 ^ k % 2) 1) (sym (digit-shifted a k)) ∙ ap (λ t. digit a k && t) (sym (digit-shifted b k))

digit_not : (a k : ℕ) → a < 2 ^ 64 → k < 64 → digit (bit_not w64 a) k ≡ not (digit a k)
digit_not a k fits low =
    digit-shifted (bit_not w64 a) k ∙ ap (λ x. eqb x 1) (bit_at_not w64 a k fits low) ∙ other-bit (a / 2 ^ k % 2) (omega arith) ∙ ap not (sym (digit-shifted a k))

-- a row by its words
module _ (row more made : List ℕ) where
  abbrev pub ByWords : (ℕ → ℕ → ℕ) → Type 0
  ByWords op = (k : ℕ) → k < 4 → get_or made k 0 ≡ op (get_or row k 0) (get_or more k 0)

  pub has-either : ByWords bit_or → (set : ℕ) → set < 256 → has made set ≡ (has row set || has more set)
  has-either words set below = ap (λ w. digit w (set % 64)) (words (set / 64) (omega arith)) ∙ digit_or (get_or row (set / 64) 0) (get_or more (set / 64) 0) (set % 64)

  pub has-both : ByWords bit_and → (set : ℕ) → set < 256 → has made set ≡ (has row set && has more set)
  has-both words set below = ap (λ w. digit w (set % 64)) (words (set / 64) (omega arith)) ∙ digit_and (get_or row (set / 64) 0) (get_or more (set / 64) 0) (set % 64)

pub has-other : (row made : List ℕ) → ((k : ℕ) → get_or row k 0 < 2 ^ 64) → ((k : ℕ) → k < 4 → get_or made k 0 ≡ bit_not w64 (get_or row k 0)) → (set : ℕ) → set < 256 → has made set ≡ not (has row set)
has-other row made fit words set below = ap (λ w. digit w (set % 64)) (words (set / 64) (omega arith)) ∙ digit_not (get_or row (set / 64) 0) (set % 64) (fit (set / 64)) (omega arith)

-- the digits of the least word and of the largest
digit-zero : (k : ℕ) → digit 0 k ≡ false
digit-zero k = digit-shifted 0 k ∙ ap (λ x. eqb x 1) (bit_at-zero k)

digit-ones : (k : ℕ) → k < 64 → digit (2 ^ 64 - 1) k ≡ true
digit-ones k low = digit-shifted (2 ^ 64 - 1) k ∙ ap (λ x. eqb x 1) (bit_at_ones 64 k low)

-- a row of four words that are the same
same_word : (w n : ℕ) → n < 4 → get_or (w ∷ w ∷ w ∷ w ∷ []) n 0 ≡ w
same_word w zero low = refl
same_word w (suc zero) low = refl
same_word w (suc (suc zero)) low = refl
same_word w (suc (suc (suc zero))) low = refl
same_word w (suc (suc (suc (suc n)))) low = absurd (omega (arith, low))

pub has-none : (set : ℕ) → set < 256 → has (0 ∷ 0 ∷ 0 ∷ 0 ∷ []) set ≡ false
has-none set below = ap (λ w. digit w (set % 64)) (same_word 0 (set / 64) (omega arith)) ∙ digit-zero (set % 64)

pub has-all : (set : ℕ) → set < 256 → has ((2 ^ 64 - 1) ∷ (2 ^ 64 - 1) ∷ (2 ^ 64 - 1) ∷ (2 ^ 64 - 1) ∷ []) set ≡ true
has-all set below = ap (λ w. digit w (set % 64)) (same_word (2 ^ 64 - 1) (set / 64) (omega arith)) ∙ digit-ones (set % 64) (omega arith)

-- a word of a row that is lent, or none past them
pub word_told : {Tells : Bor ℕ → Type 0} (row : List ℕ) (w k : ℕ) (r : Option (Bor ℕ)) (t : Bool) → option_map (λ x. x.now) r ≡ slice_get row w → MatchOption r (t ≡ false) Tells → ((x : Bor ℕ) → Tells x → t ≡ digit x.now k) → t ≡ digit (get_or row w 0) k
word_told row w k None t entry is tells = is ∙ sym (digit-zero k) ∙ ap (λ o. digit (unwrap_or o 0) k) entry ∙ ap (λ x. digit x k) (unwrap_or-slice_get row w 0)
word_told row w k (Some x) t entry is tells = tells x is ∙ ap (λ o. digit (unwrap_or o 0) k) entry ∙ ap (λ x. digit x k) (unwrap_or-slice_get row w 0)

-- whether two tests agree on the numbers below one
unfoldable pub agree_below : ℕ → (ℕ → Bool) → (ℕ → Bool) → Bool
agree_below zero f g = true
agree_below (suc n) f g = beq (f n) (g n) && agree_below n f g

same_answer : (a b : Bool) → beq a b ≡ true → a ≡ b
same_answer true true h = refl
same_answer true false h = sym h
same_answer false true h = h
same_answer false false h = refl

agreed : (n : ℕ) (f g : ℕ → Bool) → agree_below n f g ≡ true → (k : ℕ) → k < n → f k ≡ g k
unfolding agree_below
agreed zero f g h k low = absurd (omega (arith, low))
agreed (suc n) f g h k low = elim (cases_eq k n) [ inl here ↦ at here (same_answer (f n) (g n) (and_parts _ _ h).0) | inr apart ↦ agreed n f g (and_parts _ _ h).1 k (omega arith) ]
  where
    at : k ≡ n → f n ≡ g n → f k ≡ g k
    at here is = rw here is

-- the rows of the sets with each of the eight places
module _ (row : List ℕ) (place : ℕ) where
  pub has-placed : agree_below 256 (has row) (λ set. in_set set place) ≡ true → (set : ℕ) → set < 256 → has row set ≡ in_set set place
  has-placed h = agreed 256 (has row) (λ set. in_set set place) h

-- no set has the place 0 or one past the eighth
pub has-unplaced : (place : ℕ) → (0 < place → place < 9 → ⊥) → (set : ℕ) → set < 256 → has (0 ∷ 0 ∷ 0 ∷ 0 ∷ []) set ≡ in_set set place
has-unplaced zero out set below = has-none set below
has-unplaced (suc k) out set below = has-none set below ∙ sym (digit-past set k 8 (omega arith) (far (cases_lt k 8)))
  where
    far : (k < 8) ⊎ (8 ≤ k) → 8 ≤ k
    far (inl near) = absurd (out (omega arith) (omega arith))
    far (inr past) = past
