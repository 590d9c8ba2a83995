-- How often numbers are in lists, and what a list of tests tells. Assumes nothing.
use Rattle.std.proofs.Common.{◌≡◌, ℕ, suc, ◌+◌, ◌<◌, ◌≤◌, Bool, true, false, ◌||◌, eqb, ◌⊎◌, List, [], ◌∷◌, ◌++◌, length, sym, refl, ap, ◌∙◌, inl, inr, arith}
use Rattle.std.specs.List.{flat_map, AllByRecursion, list_any}
use Rattle.std.proofs.lemmas.List.Folds.{list_any-append}
use Rattle.std.proofs.lemmas.Bool.{cases_Bool, eqb-true, eq-eqb, or_cases, or_left, or_right, false≢true}
use Rattle.walkthroughs.specs.Lists.{one, times, SameMoves, Within}

pub one-is : (x y : ℕ) → x ≡ y → one x y ≡ 1
unfolding one
one-is x y e = rw (eq-eqb x y e) refl

pub one-cases : (x y : ℕ) → ((x ≡ y) × (one x y ≡ 1)) ⊎ (one x y ≡ 0)
unfolding one
one-cases x y = elim (cases_Bool (eqb x y)) [ inl k ↦ inl (eqb-true x y k, rw k refl) | inr k ↦ inr (rw k refl) ]

pub times-append : (x : ℕ) (a b : List ℕ) → times x (a ++ b) ≡ times x a + times x b
times-append x [] b = omega arith
times-append x (y ∷ a) b = omega (arith, times-append x a b)

-- one entry of a list taken out
pub take_out : (x : ℕ) (b : List ℕ) → 0 < times x b → (rest : List ℕ) × SameMoves (x ∷ rest) b × (length b ≡ suc (length rest))
take_out x [] h = absurd (omega arith)
take_out x (y ∷ b) h = elim (one-cases x y) [ inl k ↦ (b, (λ z. ap (λ v. one z v + times z b) k.0), refl) | inr k ↦ deeper (take_out x b (omega arith)) ]
  where
    deeper : ((rest : List ℕ) × SameMoves (x ∷ rest) b × (length b ≡ suc (length rest))) → (rest : List ℕ) × SameMoves (x ∷ rest) (y ∷ b) × (length (y ∷ b) ≡ suc (length rest))
    deeper (rest, same, long) = (y ∷ rest, (λ z. omega (arith, same z)), ap suc long)

-- what is left of a list besides another
pub leftover : (a b : List ℕ) → Within a b → (rest : List ℕ) × SameMoves (a ++ rest) b
leftover [] b w = (b, λ z. refl)
leftover (x ∷ a) b w = without (take_out x b (omega (arith, w x, one-is x x refl))) (leftover a)
  where
    put : (rest : List ℕ) → SameMoves (x ∷ rest) b → ((more : List ℕ) × SameMoves (a ++ more) rest) → (more : List ℕ) × SameMoves (x ∷ (a ++ more)) b
    put rest same (more, rejoined) = (more, λ z. omega (arith, same z, rejoined z))

    without : ((rest : List ℕ) × SameMoves (x ∷ rest) b × (length b ≡ suc (length rest))) → ((rest : List ℕ) → Within a rest → (more : List ℕ) × SameMoves (a ++ more) rest) → (more : List ℕ) × SameMoves (x ∷ (a ++ more)) b
    without (rest, same, long) next = put rest same (next rest (λ z. omega (arith, same z, w z)))

pub length-within : (a b : List ℕ) → Within a b → length a ≤ length b
length-within [] b w = omega arith
length-within (x ∷ a) b w = shorter (take_out x b (omega (arith, w x, one-is x x refl))) (length-within a)
  where
    shorter : ((rest : List ℕ) × SameMoves (x ∷ rest) b × (length b ≡ suc (length rest))) → ((rest : List ℕ) → Within a rest → length a ≤ length rest) → suc (length a) ≤ length b
    shorter (rest, same, long) next = omega (arith, next rest (λ z. omega (arith, same z, w z)))

-- what holds of each number in a list
pub all-from_times : (P : ℕ → Type 0) (a : List ℕ) → ((x : ℕ) → 0 < times x a → P x) → AllByRecursion P a
all-from_times P [] h = tt
all-from_times P (x ∷ a) h = (h x (omega (arith, one-is x x refl)), all-from_times P a (λ z k. h z (omega arith)))

pub any-joined : {X Y : Type 0} (p : Y → Bool) (f : X → List Y) (xs : List X) → list_any p (flat_map f xs) ≡ list_any (λ x. list_any p (f x)) xs
any-joined p f [] = refl
any-joined p f (x ∷ xs) = list_any-append p (f x) (flat_map f xs) ∙ ap (λ b. list_any p (f x) || b) (any-joined p f xs)

pub any-weaker : {X : Type 0} (p q : X → Bool) → ((x : X) → p x ≡ true → q x ≡ true) → (xs : List X) → list_any p xs ≡ true → list_any q xs ≡ true
any-weaker p q weaker [] h = h
any-weaker p q weaker (x ∷ xs) h = elim (or_cases (p x) (list_any p xs) h) [ inl k ↦ or_left (q x) (list_any q xs) (weaker x k) | inr k ↦ or_right (q x) (list_any q xs) (any-weaker p q weaker xs k) ]

-- a number that passes, in the list
pub any-find : (p : ℕ → Bool) (xs : List ℕ) → list_any p xs ≡ true → (x : ℕ) × (p x ≡ true) × (0 < times x xs)
any-find p [] h = absurd (false≢true h)
any-find p (x ∷ xs) h = elim (or_cases (p x) (list_any p xs) h) [ inl k ↦ (x, k, omega (arith, one-is x x refl)) | inr k ↦ later (any-find p xs k) ]
  where
    later : ((z : ℕ) × (p z ≡ true) × (0 < times z xs)) → (z : ℕ) × (p z ≡ true) × (0 < times z (x ∷ xs))
    later (z, yes', there) = (z, yes', omega arith)

pub any_at : (p : ℕ → Bool) (x : ℕ) (xs : List ℕ) → p x ≡ true → 0 < times x xs → list_any p xs ≡ true
any_at p x [] h there = absurd (omega arith)
any_at p x (y ∷ xs) h there = elim (one-cases x y) [ inl k ↦ or_left (p y) (list_any p xs) (rw k.0 at h) | inr k ↦ or_right (p y) (list_any p xs) (any_at p x xs h (omega arith)) ]

pub any-within : (p : ℕ → Bool) (a b : List ℕ) → Within a b → list_any p a ≡ true → list_any p b ≡ true
any-within p a b w h = found (any-find p a h)
  where
    found : ((x : ℕ) × (p x ≡ true) × (0 < times x a)) → list_any p b ≡ true
    found (x, passes, there) = any_at p x b passes (omega (arith, w x))

-- two tests that hold together are one
pub same_bool : (a b : Bool) → (a ≡ true → b ≡ true) → (b ≡ true → a ≡ true) → a ≡ b
same_bool true b f g = sym (f refl)
same_bool false true f g = g refl
same_bool false false f g = refl

-- a number in a list, alone
pub one-within : (x m : ℕ) (a : List ℕ) → 0 < times m a → one x m ≤ times x a
one-within x m a there = elim (one-cases x m) [ inl k ↦ here k.0 k.1 | inr k ↦ omega arith ]
  where
    here : x ≡ m → one x m ≡ 1 → one x m ≤ times x a
    here e k = rw (k, e) (omega arith)
