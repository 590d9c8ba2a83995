-- A fact's mark, as the entry of its number. Assumes nothing.
use Rattle.std.proofs.Common.{◌≡◌, ℕ, zero, suc, Bool, false, List, Bor, Some, None, Option, MatchOption, get_or, refl, ap, ◌∙◌, arith}
use Rattle.std.specs.Option.{option_map, unwrap_or}
use Rattle.std.proofs.lemmas.Bool.Decides.{nat_tests}
use Rattle.std.proofs.lemmas.Option.{unwrap_or-slice_get}
use Rattle.sheets.specs.Numbered.{entry_at}
use Rattle.formulas.specs.Truth.{stands_in}

-- a fact stands by the entry of its number, and not where there is none
entry_stands : (row : List Bool) (n : ℕ) → unwrap_or (entry_at row n) false ≡ stands_in row n
entry_stands row zero = refl
entry_stands row (suc n) = let marked : get_or row n false ≡ stands_in row (suc n) = grind (arith, nat_tests) in unwrap_or-slice_get row n false ∙ marked

-- the same of what is told of an entry that is lent, or of none
pub told_stands : {Tells : Bor Bool → Type 0} (row : List Bool) (n : ℕ) (r : Option (Bor Bool)) (t : Bool) → option_map (λ x. x.now) r ≡ entry_at row n → MatchOption r (t ≡ false) Tells → ((x : Bor Bool) → Tells x → t ≡ x.now) → t ≡ stands_in row n
told_stands row n None t entry is tells = is ∙ ap (λ o. unwrap_or o false) entry ∙ entry_stands row n
told_stands row n (Some x) t entry is tells = tells x is ∙ ap (λ o. unwrap_or o false) entry ∙ entry_stands row n
