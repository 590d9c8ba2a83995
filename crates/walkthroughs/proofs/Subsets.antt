-- Sets of places by number, and the moves at them. Assumes nothing.
use Rattle.std.proofs.Common.{◌≡◌, ℕ, zero, suc, ◌+◌, ◌-◌, ◌*◌, ◌/◌, ◌%◌, ◌^◌, ◌<◌, ◌≤◌, Bool, true, false, cond, eqb, ltb, Result, Ok, Err, MatchResult, OkIff, ◌⊎◌, List, [], ◌∷◌, length, get_or, sym, refl, ap, ◌∙◌, inl, inr, add-one, pow-suc, arith, pow_pos}
use Rattle.std.proofs.Math.Nat.{div-div-eq-div-mul, div-eq_of_lt, div-one, pow-le-pow_right}
use Rattle.std.proofs.lemmas.Bool.{cases_Bool, cases_lt, ltb-false, eqb-true, eqb-false, eq-eqb, ne_eqb}
use Rattle.walkthroughs.specs.Laws.{SetsAreSums}
use Rattle.walkthroughs.specs.Lists.{one, times, SameMoves, Within}
use Rattle.walkthroughs.specs.Sets.{digit, chosen, weight_of}
use Rattle.walkthroughs.proofs.Counts.{one-is, one-cases, take_out}

-- how many are left of a set after its first places, and after one place more
pub halved : (n k : ℕ) → n / 2 ^ k / 2 ≡ n / 2 ^ (k + 1)
halved n k = div-div-eq-div-mul n (2 ^ k) 2 ∙ ap (λ m. n / m) (omega (arith, ap (λ j. 2 ^ j) (add-one k), pow-suc 2 k))

-- whether a place is in a set, by the weight of the place
pub digit-shifted : (n k : ℕ) → digit n k ≡ eqb (n / 2 ^ k % 2) 1
digit-shifted n zero = ap (λ m. eqb (m % 2) 1) (sym (div-one n))
digit-shifted n (suc k) = digit-shifted (n / 2) k ∙ ap (λ m. eqb (m % 2) 1) (div-div-eq-div-mul n 2 (2 ^ k) ∙ ap (λ m. n / m) (omega arith))

-- a number has no digit past those that it is written with
pub digit-past : (n k j : ℕ) → n < 2 ^ j → j ≤ k → digit n k ≡ false
digit-past n k j small past =
    let powers : 2 ^ j ≤ 2 ^ k = pow-le-pow_right (omega arith) past in
    digit-shifted n k ∙ ap (λ m. eqb (m % 2) 1) (div-eq_of_lt (omega (arith, small, powers)))

-- a digit by a shift, and none where the shift is too long to be told
pub digit-read : {E : Type 0} {Told : ℕ → Type 0} (n k : ℕ) (r : Result ℕ E) (told : Bool) → n < 2 ^ 64 → OkIff r (k < 2 ^ 32) k → MatchResult r Told (λ e. told ≡ false) → ((b : ℕ) → Told b → told ≡ eqb (cond (ltb b 64) (n / 2 ^ b) 0 % 2) 1) → told ≡ digit n k
digit-read n k (Ok b) told small is given shifts = shifts b given ∙ by_test (ltb b 64) refl ∙ ap (digit n) is.1
  where
    by_test : (t : Bool) → ltb b 64 ≡ t → eqb (cond t (n / 2 ^ b) 0 % 2) 1 ≡ digit n b
    by_test true within = sym (digit-shifted n b)
    by_test false past = sym (digit-past n b 64 small (ltb-false b 64 past))
digit-read n k (Err e) told small past none shifts = none ∙ sym (digit-past n k 64 small (elim (cases_lt k 64) [ inl l ↦ absurd (past (omega arith)) | inr l ↦ l ]))

-- a set with its first place, and one without it
chosen-with : (n m : ℕ) (ms : List ℕ) → n % 2 ≡ 1 → chosen n (m ∷ ms) ≡ m ∷ chosen (n / 2) ms
chosen-with n m ms h = rw (eq-eqb (n % 2) 1 h) refl

chosen-without : (n m : ℕ) (ms : List ℕ) → n % 2 ≡ 0 → chosen n (m ∷ ms) ≡ chosen (n / 2) ms
chosen-without n m ms h = rw (ne_eqb (n % 2) 1 (λ k. omega arith)) refl

chosen-double : (n m : ℕ) (ms : List ℕ) → chosen (2 * n) (m ∷ ms) ≡ chosen n ms
chosen-double n m ms = chosen-without (2 * n) m ms (omega arith) ∙ ap (λ k. chosen k ms) (omega arith)

chosen-double_one : (n m : ℕ) (ms : List ℕ) → chosen (2 * n + 1) (m ∷ ms) ≡ m ∷ chosen n ms
chosen-double_one n m ms = chosen-with (2 * n + 1) m ms (omega arith) ∙ ap (λ k. m ∷ chosen k ms) (omega arith)

parity : (n : ℕ) → (n % 2 ≡ 1) ⊎ (n % 2 ≡ 0)
parity n = elim (cases_Bool (eqb (n % 2) 1)) [ inl k ↦ inl (eqb-true (n % 2) 1 k) | inr k ↦ inr (even (eqb-false (n % 2) 1 k)) ]
  where
    even : (n % 2 ≡ 1 → ⊥) → n % 2 ≡ 0
    even odd = elim (cases_lt 0 (n % 2)) [ inl l ↦ absurd (odd (omega arith)) | inr l ↦ omega arith ]

pub chosen-within : (n : ℕ) (ms : List ℕ) → Within (chosen n ms) ms
chosen-within n [] x = omega arith
chosen-within n (m ∷ ms) x = elim (parity n) [ inl odd ↦ rw (chosen-with n m ms odd) (omega (arith, chosen-within (n / 2) ms x)) | inr even ↦ rw (chosen-without n m ms even) (omega (arith, chosen-within (n / 2) ms x)) ]

-- the set of all places
pub chosen-all : (ms : List ℕ) → chosen (2 ^ length ms - 1) ms ≡ ms
chosen-all [] = refl
chosen-all (m ∷ ms) = chosen-with (2 ^ suc (length ms) - 1) m ms (omega (arith, pow-suc 2 (length ms), pow_pos (length ms))) ∙ ap (λ k. m ∷ chosen k ms) (omega (arith, pow-suc 2 (length ms), pow_pos (length ms))) ∙ ap (λ l. m ∷ l) (chosen-all ms)

-- a place outside a set has a move besides those of the set
pub outside-within : (n k : ℕ) (ms : List ℕ) → k < length ms → digit n k ≡ false → Within (get_or ms k 0 ∷ chosen n ms) ms
outside-within n k [] h out x = absurd (omega arith)
outside-within n zero (m ∷ ms) h out x = rw (chosen-without n m ms (even n out)) (omega (arith, chosen-within (n / 2) ms x))
  where
    even : (n : ℕ) → eqb (n % 2) 1 ≡ false → n % 2 ≡ 0
    even n out = elim (parity n) [ inl odd ↦ absurd (eqb-false (n % 2) 1 out odd) | inr e ↦ e ]
outside-within n (suc k) (m ∷ ms) h out x = elim (parity n) [ inl odd ↦ rw (chosen-with n m ms odd) (omega (arith, outside-within (n / 2) k ms (omega arith) out x)) | inr even ↦ rw (chosen-without n m ms even) (omega (arith, outside-within (n / 2) k ms (omega arith) out x)) ]

-- a set that chooses the moves of a list, no higher than n
pub record Numbered (ms : List ℕ) (n : ℕ) (set : List ℕ) : Type 0 where
  pub number : ℕ
  pub low : number ≤ n
  pub same : SameMoves (chosen number ms) set

-- a set below n that chooses the moves of a list, and a place outside it that has a move
pub record Beside (ms : List ℕ) (n : ℕ) (set : List ℕ) (m : ℕ) : Type 0 where
  pub number : ℕ
  pub place : ℕ
  pub low : number < n
  pub placed : place < length ms
  pub outside : digit number place ≡ false
  pub here : get_or ms place 0 ≡ m
  pub same : SameMoves (chosen number ms) set

digit-double : (n k : ℕ) → digit (2 * n) (suc k) ≡ digit n k
digit-double n k = ap (λ x. digit x k) (omega arith)

digit-double_one : (n k : ℕ) → digit (2 * n + 1) (suc k) ≡ digit n k
digit-double_one n k = ap (λ x. digit x k) (omega arith)

module _ (y : ℕ) (ys : List ℕ) where
  put-out : (n : ℕ) (set : List ℕ) → Numbered ys (n / 2) set → Numbered (y ∷ ys) n set
  put-out n set r = record { number = 2 * r.number; low = omega (arith, r.low); same = λ x. ap (times x) (chosen-double r.number y ys) ∙ r.same x }

  put_in : (n : ℕ) (set rest : List ℕ) → n % 2 ≡ 1 → SameMoves (y ∷ rest) set → Numbered ys (n / 2) rest → Numbered (y ∷ ys) n set
  put_in n set rest odd split r = record { number = 2 * r.number + 1; low = omega (arith, r.low); same = λ x. ap (times x) (chosen-double_one r.number y ys) ∙ omega (arith, r.same x, split x) }

  beside-out : (n : ℕ) (set : List ℕ) (m : ℕ) → Beside ys (n / 2) set m → Beside (y ∷ ys) n set m
  beside-out n set m r = record { number = 2 * r.number; place = suc r.place; low = omega (arith, r.low); placed = omega (arith, r.placed); outside = digit-double r.number r.place ∙ r.outside; here = r.here; same = λ x. ap (times x) (chosen-double r.number y ys) ∙ r.same x }

  beside-in : (n : ℕ) (set rest : List ℕ) (m : ℕ) → n % 2 ≡ 1 → SameMoves (y ∷ rest) set → Beside ys (n / 2) rest m → Beside (y ∷ ys) n set m
  beside-in n set rest m odd split r = record { number = 2 * r.number + 1; place = suc r.place; low = omega (arith, r.low); placed = omega (arith, r.placed); outside = digit-double_one r.number r.place ∙ r.outside; here = r.here; same = λ x. ap (times x) (chosen-double_one r.number y ys) ∙ omega (arith, r.same x, split x) }

  beside-here : (n : ℕ) (set : List ℕ) (m : ℕ) → n % 2 ≡ 1 → m ≡ y → Numbered ys (n / 2) set → Beside (y ∷ ys) n set m
  beside-here n set m odd e r = record { number = 2 * r.number; place = 0; low = omega (arith, r.low); placed = omega arith; outside = ne_eqb (2 * r.number % 2) 1 (λ k. omega arith); here = sym e; same = λ x. ap (times x) (chosen-double r.number y ys) ∙ r.same x }

-- a number that a list has not goes out of what it is within
without : (y : ℕ) (a b : List ℕ) → times y a ≡ 0 → Within a (y ∷ b) → Within a b
without y a b absent w x = elim (one-cases x y) [ inl k ↦ here x k.0 absent | inr k ↦ omega (arith, w x) ]
  where
    here : (x : ℕ) → x ≡ y → times y a ≡ 0 → times x a ≤ times x b
    here x e h = rw e (omega arith)

-- moves among those of a set are those of a set no higher
pub number_within : (ms : List ℕ) (n : ℕ) (set : List ℕ) → Within set (chosen n ms) → Numbered ms n set
number_within [] n set w = record { number = 0; low = omega arith; same = λ x. omega (arith, w x) }
number_within (y ∷ ys) n set w = elim (parity n) [ inr even ↦ put-out y ys n set (number_within ys (n / 2) set (rw (chosen-without n y ys even) at w)) | inl odd ↦ chosen-one odd (rw (chosen-with n y ys odd) at w) (number_within ys (n / 2)) ]
  where
    taken : n % 2 ≡ 1 → Within set (y ∷ chosen (n / 2) ys) → ((a : List ℕ) → Within a (chosen (n / 2) ys) → Numbered ys (n / 2) a) → ((rest : List ℕ) × SameMoves (y ∷ rest) set × (length set ≡ suc (length rest))) → Numbered (y ∷ ys) n set
    taken odd v next (rest, split, long) = put_in y ys n set rest odd split (next rest (λ x. omega (arith, v x, split x)))

    chosen-one : n % 2 ≡ 1 → Within set (y ∷ chosen (n / 2) ys) → ((a : List ℕ) → Within a (chosen (n / 2) ys) → Numbered ys (n / 2) a) → Numbered (y ∷ ys) n set
    chosen-one odd v next = elim (cases_lt 0 (times y set)) [ inl there ↦ taken odd v next (take_out y set there) | inr absent ↦ put-out y ys n set (next set (without y set (chosen (n / 2) ys) (omega arith) v)) ]

-- moves among those of a set, besides one more of them, are those of a lower set, with that one at a place outside
pub number_beside : (ms : List ℕ) (n : ℕ) (set : List ℕ) (m : ℕ) → Within (m ∷ set) (chosen n ms) → Beside ms n set m
number_beside [] n set m w = absurd (omega (arith, w m, one-is m m refl))
number_beside (y ∷ ys) n set m w = elim (parity n) [ inr even ↦ beside-out y ys n set m (number_beside ys (n / 2) set m (rw (chosen-without n y ys even) at w)) | inl odd ↦ chosen-one odd (rw (chosen-with n y ys odd) at w) (λ a. number_beside ys (n / 2) a m) ]
  where
    taken : n % 2 ≡ 1 → Within (m ∷ set) (y ∷ chosen (n / 2) ys) → ((a : List ℕ) → Within (m ∷ a) (chosen (n / 2) ys) → Beside ys (n / 2) a m) → ((rest : List ℕ) × SameMoves (y ∷ rest) set × (length set ≡ suc (length rest))) → Beside (y ∷ ys) n set m
    taken odd v next (rest, split, long) = beside-in y ys n set rest m odd split (next rest (λ x. omega (arith, v x, split x)))

    other : n % 2 ≡ 1 → one m y ≡ 0 → Within (m ∷ set) (y ∷ chosen (n / 2) ys) → ((a : List ℕ) → Within (m ∷ a) (chosen (n / 2) ys) → Beside ys (n / 2) a m) → Beside (y ∷ ys) n set m
    other odd apart v next = elim (cases_lt 0 (times y set)) [ inl there ↦ taken odd v next (take_out y set there) | inr absent ↦ beside-out y ys n set m (next set (without y (m ∷ set) (chosen (n / 2) ys) (omega (arith, flip apart)) v)) ]
      where
        flip : one m y ≡ 0 → one y m ≡ 0
        flip h = elim (one-cases y m) [ inr k ↦ k | inl k ↦ absurd (omega (arith, one-is m y (sym k.0))) ]

    chosen-one : n % 2 ≡ 1 → Within (m ∷ set) (y ∷ chosen (n / 2) ys) → ((a : List ℕ) → Within (m ∷ a) (chosen (n / 2) ys) → Beside ys (n / 2) a m) → Beside (y ∷ ys) n set m
    chosen-one odd v next = elim (one-cases m y) [ inr apart ↦ other odd apart v next | inl k ↦ beside-here y ys n set m odd k.0 (number_within ys (n / 2) set (λ x. omega (arith, v x, ap (one x) k.0))) ]

-- the weight of a set by its first place and the others
weight_half : (n k : ℕ) → weight_of n (suc k) ≡ n % 2 + 2 * weight_of (n / 2) k
weight_half n zero = elim (parity n) [ inl odd ↦ rw (eq-eqb (n % 2) 1 odd) (omega arith) | inr even ↦ rw (ne_eqb (n % 2) 1 (λ k. omega arith)) (omega arith) ]
weight_half n (suc k) = ap (λ x. x + cond (digit (n / 2) k) (2 ^ suc k) 0) (weight_half n k) ∙ elim (cases_Bool (digit (n / 2) k)) [ inl yes' ↦ rw yes' (omega (arith, pow-suc 2 k)) | inr no' ↦ rw no' (omega arith) ]

pub sets-are_sums : SetsAreSums
sets-are_sums zero n h = omega arith
sets-are_sums (suc k) n h = weight_half n k ∙ ap (λ x. n % 2 + 2 * x) (sets-are_sums k (n / 2) (omega (arith, pow-suc 2 k))) ∙ omega arith
