-- A search for the first element that passes a test. Assumes nothing.
use Rattle.std.proofs.Common.{◌≡◌, ℕ, suc, ◌+◌, Bool, true, false, not, ltb, cond, List, [], ◌∷◌, map, length, get_or, Some, None, sym, refl, ap, ◌∙◌, add-zero, arith}
use Rattle.std.specs.Str.{bytes_eq}
use Rattle.std.proofs.lemmas.Slice.Eq.{bytes_eq-Decides}
use Rattle.std.specs.List.{position_or_len}
use Rattle.std.proofs.lemmas.Bool.{cond_below}
use Rattle.std.proofs.lemmas.Bool.Decides.{nat_tests}
use Rattle.sheets.specs.Listed.{first_from, place_of}

-- the search answers as the library's `position` does
pub first_from-position : {X : Type 0} (test : X → Bool) (n : ℕ) (xs : List X) → first_from test n xs ≡ cond (ltb (position_or_len test xs) (length xs)) (Some (n + position_or_len test xs)) None
first_from-position test n [] = refl
first_from-position test n (x ∷ xs) = by_first (test x) (first_from-position test (n + 1) xs)
  where
    by_first : (t : Bool) → first_from test (n + 1) xs ≡ cond (ltb (position_or_len test xs) (length xs)) (Some (n + 1 + position_or_len test xs)) None → cond t (Some n) (first_from test (n + 1) xs) ≡ cond (ltb (cond (not t) (1 + position_or_len test xs) 0) (suc (length xs))) (Some (n + cond (not t) (1 + position_or_len test xs) 0)) None
    by_first true later = ap Some (sym (add-zero n)) ∙ cond_below 0 (suc (length xs)) (Some (n + 0)) None (omega arith)
    by_first false later =
        let at : n + 1 + position_or_len test xs ≡ n + (1 + position_or_len test xs) = omega arith in
        let within : ltb (position_or_len test xs) (length xs) ≡ ltb (1 + position_or_len test xs) (suc (length xs)) = grind (arith, nat_tests) in
        rw (at, within) at later

-- to look for an element by what is made of it is to look among what is made
pub first_from-map : {X Y : Type 0} (test : Y → Bool) (f : X → Y) (n : ℕ) (xs : List X) → first_from (λ x. test (f x)) n xs ≡ first_from test n (map f xs)
first_from-map test f n [] = refl
first_from-map test f n (x ∷ xs) = ap (λ o. cond (test (f x)) (Some n) o) (first_from-map test f (n + 1) xs)

-- what stands at the place that is found passes the test
pub found-passes : {X : Type 0} (test : X → Bool) (n : ℕ) (xs : List X) (k : ℕ) (d : X) → first_from test n xs ≡ Some k → (j : ℕ) × (k ≡ n + j) × (test (get_or xs j d) ≡ true)
found-passes test n [] k d found = let no : ◌≡◌ {A = ℕ} 0 1 = cc in absurd (omega arith)
found-passes test n (x ∷ xs) k d found = by_first (test x) refl (found-passes test (n + 1) xs k d) found
  where
    by_first : (t : Bool) → t ≡ test x → (first_from test (n + 1) xs ≡ Some k → (j : ℕ) × (k ≡ n + 1 + j) × (test (get_or xs j d) ≡ true)) → cond t (Some n) (first_from test (n + 1) xs) ≡ Some k → (j : ℕ) × (k ≡ n + j) × (test (get_or (x ∷ xs) j d) ≡ true)
    by_first true passes among found = let here : n ≡ k = cc in (0, omega arith, sym passes)
    by_first false fails among found = let later = among found in (suc later.0, omega (arith, later.1), later.2)

-- a text stands where it is found
pub placed : (text : List ℕ) (texts : List (List ℕ)) (k : ℕ) → place_of text texts ≡ Some k → get_or texts k [] ≡ text
placed text texts k found =
    let at = found-passes (λ t. bytes_eq t text) 0 texts k [] found in
    let here : k ≡ at.0 = omega (arith, at.1) in
    ap (λ j. get_or texts j []) here ∙ (bytes_eq-Decides (get_or texts at.0 []) text).0 at.2
