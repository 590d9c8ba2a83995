-- A search over the places of a step. Assumes nothing.
use Rattle.std.proofs.Common.{◌≡◌, ℕ, zero, suc, ◌+◌, ◌<◌, Bool, true, false, eqb, List, length, get_or, take, Some, None, Option, sym, ap, ◌∙◌, add-one, arith}
use Rattle.std.proofs.lemmas.Bool.{both_ways}
use Rattle.std.proofs.lemmas.Bool.Decides.{nat_tests}
use Rattle.std.proofs.lemmas.Grind.{common_steps}
use Rattle.std.proofs.lemmas.List.Folds.{Any-from_list_any, list_any_at}
use Rattle.walkthroughs.specs.Disturbance.{move_at}
use Rattle.std.specs.List.{list_any}
use Rattle.std.specs.Option.{MatchOption, option_map}
use Rattle.walkthroughs.specs.Searching.{LowestBy, one}
use Rattle.walkthroughs.specs.Steps.{RepeatedAt}
use Rattle.walkthroughs.proofs.Searched.{place_first}

-- the move at the place after i others
pub move_at-next : (moves : List ℕ) (i : ℕ) → move_at moves (i + 1) ≡ get_or moves i 0
move_at-next moves i = ap (move_at moves) (add-one i)

-- whether the move at the place after i others is among those
abbrev pub repeats : List ℕ → ℕ → Bool
repeats moves i = list_any (λ n. eqb n (get_or moves i 0)) (take i moves)

module _ (moves : List ℕ) (i : ℕ) (here : i < length moves) where
  is-repeated : repeats moves i ≡ true → RepeatedAt moves (i + 1)
  is-repeated is =
      let (j, n, below, at, same) = Any-from_list_any (λ n. eqb n (get_or moves i 0)) (take i moves) is in
      let near : j < i = grind (arith, common_steps) in
      let equal : get_or moves j 0 ≡ get_or moves i 0 = grind (arith, common_steps, nat_tests) in
      ((omega arith, omega arith), (j + 1, (omega arith, omega arith), omega arith, move_at-next moves j ∙ equal ∙ sym (move_at-next moves i)))

  is-new : repeats moves i ≡ false → RepeatedAt moves (i + 1) → ⊥
  is-new is (placed, (zero, listed, before, same)) = omega (arith, listed.0)
  is-new is (placed, (suc j, listed, before, same)) =
      let equal : get_or moves j 0 ≡ get_or moves i 0 = same ∙ move_at-next moves i in
      both_ways (repeats moves i) is (list_any_at (λ n. eqb n (get_or moves i 0)) (take i moves) j 0 (grind (arith, common_steps)) (grind (arith, common_steps, nat_tests)))

-- the first such i
abbrev pub FirstRepeated : List ℕ → Option ℕ → Type 0
FirstRepeated moves r = MatchOption r ((i : ℕ) → i < length moves → false ≡ repeats moves i) (λ i. (i < length moves) × (true ≡ repeats moves i) × ((j : ℕ) → j < i → false ≡ repeats moves j))

pub repeated_first : (moves : List ℕ) (r : Option ℕ) → FirstRepeated moves r → LowestBy one (RepeatedAt moves) (option_map (λ i. i + 1) r)
repeated_first moves r first = place_first (RepeatedAt moves) (length moves) (λ p so. so.0) r (by_place r first)
  where
    by_place : (r : Option ℕ) → FirstRepeated moves r → MatchOption r ((i : ℕ) → i < length moves → RepeatedAt moves (i + 1) → ⊥) (λ i. (i < length moves) × RepeatedAt moves (i + 1) × ((j : ℕ) → j < i → RepeatedAt moves (j + 1) → ⊥))
    by_place None none = λ i below. is-new moves i below (sym (none i below))
    by_place (Some i) found = (found.0, is-repeated moves i found.0 (sym found.1), λ j below. is-new moves j (omega (arith, found.0)) (sym (found.2 j below)))
