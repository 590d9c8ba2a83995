-- Places of a list and effects of a move, and what is found at them. Assumes nothing.
use Rattle.std.proofs.Common.{◌≡◌, ℕ, zero, suc, ◌<◌, ◌≤◌, Bool, true, ◌⊎◌, List, [], ◌∷◌, length, get_or, sym, refl, ap, ◌∙◌, inl, inr, arith}
use Rattle.formulas.specs.Formulas.{holds}
use Rattle.formulas.specs.Formulas.Formula.{all}
use Rattle.formulas.specs.Formulas.Formulas.{none}
use Rattle.std.proofs.lemmas.List.{get_or_past}
use Rattle.std.proofs.lemmas.Bool.{cases_lt, or_cases, or_left, or_right, false≢true}
use Rattle.depots.specs.Tables.{Effect}
use Rattle.walkthroughs.specs.Depots.{Depot, State, Listed, effect_of, move_of, truth_of}
use Rattle.walkthroughs.specs.Disturbance.{move_at}
use Rattle.std.specs.List.{list_any}
use Rattle.walkthroughs.specs.Firing.{fired, fired_by, fires}
use Rattle.walkthroughs.specs.Lists.{times}
use Rattle.walkthroughs.proofs.Counts.{any_at, any-find, any-joined, any-weaker, one-cases, one-is}
use Rattle.walkthroughs.proofs.Firings.{nothing}

pub listed-or_not : (n k : ℕ) → Listed n k ⊎ (Listed n k → ⊥)
listed-or_not n k = elim (cases_lt 0 n) [ inr low ↦ inr (λ l. omega (arith, l.0)) | inl some ↦ elim (cases_lt k n) [ inl past ↦ inr (λ l. omega (arith, l.1)) | inr in' ↦ inl (some, in') ] ]

-- a formula that is not listed is true
pub truth_past : (d : Depot) (s : State) (n : ℕ) → (Listed n (length d.formulas) → ⊥) → truth_of d s n ≡ true
truth_past d s zero unlisted = refl
truth_past d s (suc n) unlisted = elim (cases_lt n (length d.formulas)) [ inl in' ↦ absurd (unlisted (omega arith, omega arith)) | inr past ↦ ap (λ p. holds s p) (get_or_past d.formulas n (all none) past) ]

-- a number in a list has a place
find_place : (m : ℕ) (ms : List ℕ) → 0 < times m ms → (k : ℕ) × (k < length ms) × (get_or ms k 0 ≡ m)
find_place m [] h = absurd (omega arith)
find_place m (y ∷ ms) h = elim (one-cases m y) [ inl k ↦ (0, omega arith, sym k.0) | inr k ↦ later (find_place m ms (omega arith)) ]
  where
    later : ((k : ℕ) × (k < length ms) × (get_or ms k 0 ≡ m)) → (k : ℕ) × (k < length (y ∷ ms)) × (get_or (y ∷ ms) k 0 ≡ m)
    later (k, in', here) = (suc k, omega arith, here)

pub place_of : (m : ℕ) (ms : List ℕ) → 0 < times m ms → (p : ℕ) × Listed p (length ms) × (move_at ms p ≡ m)
place_of m ms h = let f = find_place m ms h in (suc f.0, (omega arith, omega (arith, f.1)), f.2)

times-get_or : (k : ℕ) (ms : List ℕ) → k < length ms → 0 < times (get_or ms k 0) ms
times-get_or k [] h = absurd (omega arith)
times-get_or zero (m ∷ ms) h = omega (arith, one-is m m refl)
times-get_or (suc k) (m ∷ ms) h = omega (arith, times-get_or k ms (omega arith))

pub times-at : (p : ℕ) (ms : List ℕ) → Listed p (length ms) → 0 < times (move_at ms p) ms
times-at zero ms l = absurd (omega (arith, l.0))
times-at (suc k) ms l = times-get_or k ms (omega (arith, l.1))

-- a number twice in a list has two places
find_two : (m : ℕ) (ms : List ℕ) → 1 < times m ms → (j k : ℕ) × (j < k) × (k < length ms) × (get_or ms j 0 ≡ m) × (get_or ms k 0 ≡ m)
find_two m [] h = absurd (omega arith)
find_two m (y ∷ ms) h = elim (one-cases m y) [ inl k ↦ here k.0 (find_place m ms (omega (arith, k.1))) | inr k ↦ later (find_two m ms (omega arith)) ]
  where
    here : m ≡ y → ((k : ℕ) × (k < length ms) × (get_or ms k 0 ≡ m)) → (j k : ℕ) × (j < k) × (k < length (y ∷ ms)) × (get_or (y ∷ ms) j 0 ≡ m) × (get_or (y ∷ ms) k 0 ≡ m)
    here e (k, in', at) = (0, suc k, omega arith, omega arith, sym e, at)

    later : ((j k : ℕ) × (j < k) × (k < length ms) × (get_or ms j 0 ≡ m) × (get_or ms k 0 ≡ m)) → (j k : ℕ) × (j < k) × (k < length (y ∷ ms)) × (get_or (y ∷ ms) j 0 ≡ m) × (get_or (y ∷ ms) k 0 ≡ m)
    later (j, k, less, in', a, b) = (suc j, suc k, omega arith, omega arith, a, b)

pub two-places : (m : ℕ) (ms : List ℕ) → 1 < times m ms → (p : ℕ) × Listed p (length ms) × ((q : ℕ) × Listed q (length ms) × (q < p) × (move_at ms q ≡ move_at ms p))
two-places m ms h = of (find_two m ms h)
  where
    of : ((j k : ℕ) × (j < k) × (k < length ms) × (get_or ms j 0 ≡ m) × (get_or ms k 0 ≡ m)) → (p : ℕ) × Listed p (length ms) × ((q : ℕ) × Listed q (length ms) × (q < p) × (move_at ms q ≡ move_at ms p))
    of (j, k, less, in', a, b) = (suc k, (omega arith, omega arith), (suc j, (omega arith, omega arith), omega arith, a ∙ sym b))

times-two : (j k : ℕ) (ms : List ℕ) → j < k → k < length ms → get_or ms j 0 ≡ get_or ms k 0 → 1 < times (get_or ms k 0) ms
times-two j k [] less in' same = absurd (omega arith)
times-two j zero (m ∷ ms) less in' same = absurd (omega arith)
times-two zero (suc k) (m ∷ ms) less in' same = omega (arith, one-is (get_or ms k 0) m (sym same), times-get_or k ms (omega arith))
times-two (suc j) (suc k) (m ∷ ms) less in' same = omega (arith, times-two j k ms (omega arith) (omega arith) same)

pub times-twice : (p q : ℕ) (ms : List ℕ) → Listed p (length ms) → Listed q (length ms) → q < p → move_at ms q ≡ move_at ms p → 1 < times (move_at ms p) ms
times-twice zero q ms l k less same = absurd (omega arith)
times-twice (suc p) zero ms l k less same = absurd (omega (arith, k.0))
times-twice (suc p) (suc q) ms l k less same = times-two q p ms (omega arith) (omega (arith, l.1)) same

-- an entry that passes has a place
any_place : (p : Effect → Bool) (es : List Effect) → list_any p es ≡ true → (k : ℕ) × (k < length es) × (p (get_or es k nothing) ≡ true)
any_place p [] h = absurd (false≢true h)
any_place p (e ∷ es) h = elim (or_cases (p e) (list_any p es) h) [ inl k ↦ (0, omega arith, k) | inr k ↦ later (any_place p es k) ]
  where
    later : ((k : ℕ) × (k < length es) × (p (get_or es k nothing) ≡ true)) → (k : ℕ) × (k < length (e ∷ es)) × (p (get_or (e ∷ es) k nothing) ≡ true)
    later (k, in', here) = (suc k, omega arith, here)

any-get_or : (p : Effect → Bool) (es : List Effect) (k : ℕ) → k < length es → p (get_or es k nothing) ≡ true → list_any p es ≡ true
any-get_or p [] k in' h = absurd (omega arith)
any-get_or p (e ∷ es) zero in' h = or_left (p e) (list_any p es) h
any-get_or p (e ∷ es) (suc k) in' h = or_right (p e) (list_any p es) (any-get_or p es k (omega arith) h)

-- what moves fire has a place and an effect
pub record FiredAt (d : Depot) (s : State) (list : Effect → List ℕ) (p : ℕ → Bool) (ms : List ℕ) : Type 0 where
  pub place : ℕ
  pub effect : ℕ
  pub placed : Listed place (length ms)
  pub numbered : effect ≤ length (move_of d (move_at ms place)).effects
  pub here : list_any p (fires d s list (effect_of d (move_at ms place) effect)) ≡ true

pub fired-at : (d : Depot) (s : State) (list : Effect → List ℕ) (p : ℕ → Bool) (ms : List ℕ) → list_any p (fired d s list ms) ≡ true → FiredAt d s list p ms
unfolding fired_by
fired-at d s list p ms h = by_move (any-find (λ m. list_any p (fired_by d s list m)) ms (sym (any-joined p (fired_by d s list) ms) ∙ h))
  where
    at-place : (m : ℕ) → ((k : ℕ) × (k < length (move_of d m).effects) × (list_any p (fires d s list (get_or (move_of d m).effects k nothing)) ≡ true)) → ((q : ℕ) × Listed q (length ms) × (move_at ms q ≡ m)) → FiredAt d s list p ms
    at-place m (k, in', here) (q, listed, same) = record { place = q; effect = suc k; placed = listed; numbered = rw same (omega arith); here = rw same here }

    by_move : ((m : ℕ) × (list_any p (fired_by d s list m) ≡ true) × (0 < times m ms)) → FiredAt d s list p ms
    by_move (m, passes, there) = at-place m (any_place (λ e. list_any p (fires d s list e)) (move_of d m).effects (sym (any-joined p (fires d s list) (move_of d m).effects) ∙ passes)) (place_of m ms there)

-- and what an effect at a place fires, the moves fire
pub at-fired : (d : Depot) (s : State) (list : Effect → List ℕ) (p : ℕ → Bool) (ms : List ℕ) (q e : ℕ) → list nothing ≡ [] → Listed q (length ms) → list_any p (fires d s list (effect_of d (move_at ms q) e)) ≡ true → list_any p (fired d s list ms) ≡ true
unfolding fired_by
at-fired d s list p ms q e empty listed h = any-joined p (fired_by d s list) ms ∙ any_at (λ m. list_any p (fired_by d s list m)) (move_at ms q) ms (any-joined p (fires d s list) (move_of d (move_at ms q)).effects ∙ by_effect (move_of d (move_at ms q)).effects e h) (times-at q ms listed)
  where
    idle : list_any p (fires d s list nothing) ≡ true → ⊥
    idle k = false≢true (sym (ap (list_any p) empty) ∙ k)

    by_effect : (es : List Effect) (e : ℕ) → list_any p (fires d s list (get_or (nothing ∷ es) e nothing)) ≡ true → list_any (λ x. list_any p (fires d s list x)) es ≡ true
    by_effect es zero k = absurd (idle k)
    by_effect es (suc e) k = elim (cases_lt e (length es)) [ inl in' ↦ any-get_or (λ x. list_any p (fires d s list x)) es e in' k | inr past ↦ absurd (idle (rw (get_or_past es e nothing past) at k)) ]

-- the two lists of a clash searched the other way round
pub any_swap : (r : ℕ → ℕ → Bool) (xs ys : List ℕ) → list_any (λ x. list_any (λ y. r x y) ys) xs ≡ true → list_any (λ y. list_any (λ x. r x y) xs) ys ≡ true
any_swap r xs ys h = of (any-find (λ x. list_any (λ y. r x y) ys) xs h)
  where
    of : ((x : ℕ) × (list_any (λ y. r x y) ys ≡ true) × (0 < times x xs)) → list_any (λ y. list_any (λ x. r x y) xs) ys ≡ true
    of (x, some, there) = any-weaker (λ y. r x y) (λ y. list_any (λ x. r x y) xs) (λ y k. any_at (λ x. r x y) x xs k there) ys some
