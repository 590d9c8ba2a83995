-- The first of the fields of a line with something wrong, as a search over them finds it. Assumes nothing.
use Rattle.std.proofs.Common.{◌≡◌, ℕ, zero, suc, ◌+◌, ◌<◌, Bool, true, false, eqb, not, cond, List, [], ◌∷◌, ◌++◌, map, length, get_or, take, is_none, Some, None, Option, sym, refl, ap, ◌∙◌, subst, arith, zero-add}
use Rattle.std.specs.List.{enumerate_from, list_any, position, slice_get}
use Rattle.std.specs.Option.{option_map}
use Rattle.std.specs.Str.{bytes_eq}
use Rattle.std.proofs.lemmas.Bool.{both_ways}
use Rattle.std.proofs.lemmas.Bool.Decides.{nat_tests}
use Rattle.std.proofs.lemmas.Grind.{common_steps}
use Rattle.std.proofs.lemmas.List.Folds.{Any-from_list_any, list_any_at}
use Rattle.std.proofs.lemmas.List.FromFn.{get_or-enumerate_from, length-enumerate_from}
use Rattle.std.proofs.lemmas.Option.{get_or_from_slice_get, none-some, same_Some, slice_get-get_or, slice_get-map, slice_get_within}
use Rattle.std.proofs.lemmas.Slice.Eq.{bytes_eq-Decides}
use Rattle.sheets.specs.Listed.{first_from}
use Rattle.sheets.specs.Names.{is_name}
use Rattle.sheets.specs.Numbered.{entry_at}
use Rattle.sheets.proofs.Sought.{first_from-map, found-passes}
use Rattle.depots.specs.Moves.{move_named}
use Rattle.depots.proofs.Kept.{number_found}
use Rattle.plans.specs.Fields.{First, NoName, Repeated, Unlisted}
use Rattle.plans.specs.Spelling.{NameMoves}

-- the same fields have something else wrong
first-of : (A B : ℕ → Type 0) → ((n : ℕ) → A n → B n) → ((n : ℕ) → B n → A n) → (r : Option ℕ) → First A r → First B r
first-of A B to back None none = λ n f. none n (back n f)
first-of A B to back (Some n) found = (to n found.0, λ k f. found.1 k (back k f))

-- an entry passes a test, where the entries are numbered from m
abbrev Passes : {X : Type 0} → (X → Bool) → ℕ → List X → ℕ → Type 0
Passes {X} test m xs n = (i : ℕ) × (x : X) × (n ≡ m + i) × (slice_get xs i ≡ Some x) × (test x ≡ true)

-- a search finds the first that passes
sought : {X : Type 0} (test : X → Bool) (m : ℕ) (xs : List X) → First (Passes test m xs) (first_from test m xs)
sought test m [] = λ n f. absurd (none-some _ f.3)
sought {X} test m (x ∷ xs) = by_first (test x) refl (sought test (m + 1) xs)
  where
    by_later : test x ≡ false → (r : Option ℕ) → First (Passes test (m + 1) xs) r → First (Passes test m (x ∷ xs)) r
    by_later fails = first-of (Passes test (m + 1) xs) (Passes test m (x ∷ xs)) (λ n f. (suc f.0, f.1, omega (arith, f.2), f.3, f.4)) (λ n f. back n f.0 f.1 f.2 f.3 f.4)
      where
        back : (n i : ℕ) (y : X) → n ≡ m + i → slice_get (x ∷ xs) i ≡ Some y → test y ≡ true → Passes test (m + 1) xs n
        back n zero y at here passes = absurd (both_ways _ fails (ap test (same_Some x y here) ∙ passes))
        back n (suc i) y at here passes = (i, y, omega (arith, at), here, passes)

    by_first : (t : Bool) → test x ≡ t → First (Passes test (m + 1) xs) (first_from test (m + 1) xs) → First (Passes test m (x ∷ xs)) (cond t (Some m) (first_from test (m + 1) xs))
    by_first true is later = ((0, x, omega arith, refl, is), λ k f. omega (arith, f.2))
    by_first false is later = by_later is _ later

-- the number of what `position` finds
numbered_first : {X : Type 0} (test : X → Bool) (xs : List X) (r : Option ℕ) → r ≡ position test xs → First (Passes test 1 xs) (option_map (λ n. n + 1) r)
numbered_first test xs r found = subst (First (Passes test 1 xs)) (sym (number_found test xs r found)) (sought test 1 xs)

-- an entry with a number
numbered : {X : Type 0} (xs : List X) (n i : ℕ) (x : X) → n ≡ 1 + i → slice_get xs i ≡ Some x → entry_at xs n ≡ Some x
numbered xs zero i x at here = absurd (omega arith)
numbered xs (suc n) i x at here = let same : n ≡ i = omega arith in ap (slice_get xs) same ∙ here

at_place : {X : Type 0} (xs : List X) (n : ℕ) (x : X) → entry_at xs n ≡ Some x → (i : ℕ) × (n ≡ 1 + i) × (slice_get xs i ≡ Some x)
at_place xs zero x here = absurd (none-some _ here)
at_place xs (suc n) x here = (n, omega arith, here)

-- of a test that what is wrong with an entry fails
module _ {X : Type 0} (xs : List X) (test : X → Bool) (Wrong : X → Type 0) (is-wrong : (x : X) → test x ≡ true → Wrong x) (passes : (x : X) → Wrong x → test x ≡ true) where
  wrong_first : (r : Option ℕ) → First (Passes test 1 xs) r → First (λ n. (x : X) × (entry_at xs n ≡ Some x) × Wrong x) r
  wrong_first = first-of (Passes test 1 xs) (λ n. (x : X) × (entry_at xs n ≡ Some x) × Wrong x) (λ n f. (f.1, numbered xs n f.0 f.1 f.2 f.3, is-wrong f.1 f.4)) (λ n f. let at = at_place xs n f.0 f.1 in (at.0, f.0, at.1, at.2, passes f.0 f.2))

-- the first that is no name
pub no_name_first : (fields : List (List ℕ)) (r : Option ℕ) → r ≡ position (λ f. not (is_name f)) fields → First (NoName fields) (option_map (λ n. n + 1) r)
no_name_first fields r found = wrong_first fields (λ f. not (is_name f)) (λ f. is_name f ≡ false) (λ x yes. not-true (is_name x) yes) (λ x no. ap not no) _ (numbered_first (λ f. not (is_name f)) fields r found)
  where
    not-true : (b : Bool) → not b ≡ true → b ≡ false
    not-true true is = sym is
    not-true false is = refl

module _ (names fields : List (List ℕ)) where
  -- the moves of the first fields are known, and the rest are still to be looked up
  abbrev pub NamesSoFar : List ℕ → List (List ℕ) → Type 0
  NamesSoFar moves rest = map (move_named names) fields ≡ map Some moves ++ map (move_named names) rest

  -- the first field that names no listed move
  pub unlisted_first : (moves : List ℕ) (rest more : List (List ℕ)) (text : List ℕ) → NamesSoFar moves rest → rest ≡ text ∷ more → move_named names text ≡ None → First (Unlisted names fields) (Some (length moves + 1))
  unlisted_first moves rest more text now next none =
      subst (First (Unlisted names fields)) found
      (wrong_first fields (λ f. is_none (move_named names f)) (λ f. move_named names f ≡ None) (λ x yes. none-is (move_named names x) yes) (λ x is. ap is_none is) _ (sought (λ f. is_none (move_named names f)) 1 fields))
    where
      none-is : (o : Option ℕ) → is_none o ≡ true → o ≡ None
      none-is None is = refl
      none-is (Some n) is = absurd (both_ways false refl is)

      past : (m : ℕ) (ms : List ℕ) (os : List (Option ℕ)) → first_from is_none m (map Some ms ++ None ∷ os) ≡ Some (m + length ms)
      past m [] os = let at : m ≡ m + 0 = omega arith in ap Some at
      past m (n ∷ ms) os = let at : m + 1 + length ms ≡ m + suc (length ms) = omega arith in past (m + 1) ms os ∙ ap Some at

      whole : map (move_named names) fields ≡ map Some moves ++ None ∷ map (move_named names) more
      whole = now ∙ ap (λ l. map Some moves ++ map (move_named names) l) next ∙ ap (λ o. map Some moves ++ o ∷ map (move_named names) more) none

      found : first_from (λ f. is_none (move_named names f)) 1 fields ≡ Some (length moves + 1)
      found = let at : 1 + length moves ≡ length moves + 1 = omega arith in first_from-map is_none (move_named names) 1 fields ∙ ap (first_from is_none 1) whole ∙ past 1 moves (map (move_named names) more) ∙ ap Some at

-- the first number that stands before its place too
module _ (numbers : List ℕ) where
  abbrev pub again : ℕ × ℕ → Bool
  again p = list_any (λ m. eqb m p.1) (take p.0 numbers)

  pub repeated_first : (r : Option ℕ) → r ≡ position again (enumerate_from 0 numbers) → First (Repeated numbers) (option_map (λ n. n + 1) r)
  repeated_first r found = first-of (Passes again 1 (enumerate_from 0 numbers)) (Repeated numbers) (λ n f. repeats n f.0 f.1 f.2 f.3 f.4) (λ n f. passes n f.0 f.1 f.2 f.3 f.4) _ (numbered_first again (enumerate_from 0 numbers) r found)
    where
      entry : (i : ℕ) → i < length numbers → slice_get (enumerate_from 0 numbers) i ≡ Some (i, get_or numbers i 0)
      entry i below = slice_get-get_or (enumerate_from 0 numbers) i (0, 0) (omega (arith, length-enumerate_from 0 numbers)) ∙ ap Some (get_or-enumerate_from 0 numbers i (0, 0) below) ∙ ap (λ k. Some (k, get_or numbers i 0)) (zero-add i)

      repeats : (n i : ℕ) (p : ℕ × ℕ) → n ≡ 1 + i → slice_get (enumerate_from 0 numbers) i ≡ Some p → again p ≡ true → Repeated numbers n
      repeats n i p at here is =
          let within : i < length numbers = omega (arith, slice_get_within (enumerate_from 0 numbers) i p here, length-enumerate_from 0 numbers) in
          let same : p ≡ (i, get_or numbers i 0) = same_Some p (i, get_or numbers i 0) (sym here ∙ entry i within) in
          let (j, d, below, stands, equal) = Any-from_list_any (λ m. eqb m (get_or numbers i 0)) (take i numbers) (ap again (sym same) ∙ is) in
          let near : j < i = grind (arith, common_steps) in
          let one : get_or numbers j 0 ≡ get_or numbers i 0 = grind (arith, common_steps, nat_tests) in
          (get_or numbers i 0, j + 1, omega (arith, at), numbered numbers (j + 1) j _ (omega arith) (slice_get-get_or numbers j 0 (omega arith) ∙ ap Some one), numbered numbers n i _ at (slice_get-get_or numbers i 0 within))

      passes : (n x k : ℕ) → k < n → entry_at numbers k ≡ Some x → entry_at numbers n ≡ Some x → Passes again 1 (enumerate_from 0 numbers) n
      passes n x k before first second =
          let (i, at, here) = at_place numbers n x second in
          let (j, at-j, here-j) = at_place numbers k x first in
          let within : i < length numbers = slice_get_within numbers i x here in
          let near : j < i = omega (arith, at, at-j) in
          let one : get_or numbers j 0 ≡ get_or numbers i 0 = get_or_from_slice_get numbers j x 0 here-j ∙ sym (get_or_from_slice_get numbers i x 0 here) in
          let is : again (i, get_or numbers i 0) ≡ true = list_any_at (λ m. eqb m (get_or numbers i 0)) (take i numbers) j 0 (grind (arith, common_steps)) (grind (arith, common_steps, nat_tests)) in
          (i, (i, get_or numbers i 0), at, entry i within, is)

-- two fields are one exactly if they name one move
module _ (names fields : List (List ℕ)) (moves : List ℕ) (all : NameMoves names fields moves) where
  along : (i : ℕ) → option_map (move_named names) (slice_get fields i) ≡ option_map Some (slice_get moves i)
  along i = sym (slice_get-map (move_named names) fields i) ∙ ap (λ l. slice_get l i) all ∙ slice_get-map Some moves i

  named : (n : ℕ) (text : List ℕ) → entry_at fields n ≡ Some text → (m : ℕ) × (entry_at moves n ≡ Some m) × (move_named names text ≡ Some m)
  named zero text here = absurd (none-some _ here)
  named (suc i) text here = by_move (slice_get moves i) (ap (option_map (move_named names)) (sym here) ∙ along i)
    where
      by_move : (o : Option ℕ) → Some (move_named names text) ≡ option_map Some o → (m : ℕ) × (o ≡ Some m) × (move_named names text ≡ Some m)
      by_move None is = absurd (none-some _ (sym is))
      by_move (Some m) is = (m, refl, same_Some _ _ is)

  name_of : (n m : ℕ) → entry_at moves n ≡ Some m → (text : List ℕ) × (entry_at fields n ≡ Some text) × (move_named names text ≡ Some m)
  name_of zero m here = absurd (none-some _ here)
  name_of (suc i) m here = by_field (slice_get fields i) (along i ∙ ap (option_map Some) here)
    where
      by_field : (o : Option (List ℕ)) → option_map (move_named names) o ≡ Some (Some m) → (text : List ℕ) × (o ≡ Some text) × (move_named names text ≡ Some m)
      by_field None is = absurd (none-some _ is)
      by_field (Some text) is = (text, refl, same_Some _ _ is)

  one_name : (t u : List ℕ) (m : ℕ) → move_named names t ≡ Some m → move_named names u ≡ Some m → t ≡ u
  one_name t u m is-t is-u =
      let (i, at-i, same-i) = found-passes (λ name. bytes_eq name t) 1 names m [] is-t in
      let (j, at-j, same-j) = found-passes (λ name. bytes_eq name u) 1 names m [] is-u in
      let place : i ≡ j = omega (arith, at-i, at-j) in
      sym ((bytes_eq-Decides (get_or names i []) t).0 same-i) ∙ ap (λ k. get_or names k []) place ∙ (bytes_eq-Decides (get_or names j []) u).0 same-j

  -- no field is unlisted
  pub all_listed : First (Unlisted names fields) None
  all_listed n f = let (m, here, is) = named n f.0 f.1 in none-some m (sym f.2 ∙ is)

  pub repeated_fields : (r : Option ℕ) → First (Repeated moves) r → First (Repeated fields) r
  repeated_fields = first-of (Repeated moves) (Repeated fields) (λ n f. to n f.0 f.1 f.2 f.3 f.4) (λ n f. back n f.0 f.1 f.2 f.3 f.4)
    where
      to : (n m k : ℕ) → k < n → entry_at moves k ≡ Some m → entry_at moves n ≡ Some m → Repeated fields n
      to n m k before first second =
          let (t, here-t, is-t) = name_of k m first in
          let (u, here-u, is-u) = name_of n m second in
          (t, k, before, here-t, here-u ∙ ap Some (one_name u t m is-u is-t))

      back : (n : ℕ) (t : List ℕ) (k : ℕ) → k < n → entry_at fields k ≡ Some t → entry_at fields n ≡ Some t → Repeated moves n
      back n t k before first second =
          let (a, here-a, is-a) = named k t first in
          let (b, here-b, is-b) = named n t second in
          (a, k, before, here-a, here-b ∙ sym is-b ∙ is-a)
