-- The number of the first fact that is the same, counted from 1. Assumes nothing.
use Rattle.std.proofs.Common.{◌≡◌, ℕ, ◌+◌, Bool, true, false, nat_lt, cond, List, length, Some, None, sym, refl, ap, ◌∙◌, arith}
use Rattle.std.specs.List.{position, position_or_len}
use Rattle.sheets.specs.Listed.{first_from}
use Rattle.sheets.proofs.Sought.{first_from-position}

-- the number is one more than the place
module _ {X : Type 0} (test : X → Bool) (xs : List X) where
  pub no_number : None ≡ position test xs → None ≡ first_from test 1 xs
  no_number none = by_test (nat_lt (position_or_len test xs) (length xs)) none ∙ sym (first_from-position test 1 xs)
    where
      by_test : (t : Bool) → None ≡ cond t (Some (position_or_len test xs)) None → None ≡ cond t (Some (1 + position_or_len test xs)) None
      by_test true none = cc
      by_test false none = refl

  pub number_at : (place : ℕ) → Some place ≡ position test xs → Some (place + 1) ≡ first_from test 1 xs
  number_at place found = by_test (nat_lt (position_or_len test xs) (length xs)) found ∙ sym (first_from-position test 1 xs)
    where
      by_test : (t : Bool) → Some place ≡ cond t (Some (position_or_len test xs)) None → Some (place + 1) ≡ cond t (Some (1 + position_or_len test xs)) None
      by_test true found = let here : place ≡ position_or_len test xs = cc in ap Some (omega arith)
      by_test false found = cc
