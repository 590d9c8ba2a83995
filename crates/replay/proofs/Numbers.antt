-- Reading the numbers of words, one by one. Assumes nothing.
use Rattle.std.proofs.Common.{◌≡◌, ℕ, ◌^◌, ◌<◌, Bool, true, false, not, ◌&&◌, eqb, ltb, List, length, get_or, Some, None, Ok, Err, Result, refl, ap, arith, rules}
use Rattle.std.specs.Result.{OkIff, result_ok}
use Rattle.std.specs.Str.{all_ascii_digits}
use Rattle.std.specs.Str.Parse.{ParsesUnsigned, digits_value}
use Rattle.std.proofs.lemmas.Bool.{cond_both, lt-ltb, ltb-true}
use Rattle.std.proofs.lemmas.Str.Parse.{IsNumeralModel, numerals_by_value, parse_plain, tells_all_ascii_digits}
use Rattle.replay.specs.CallLines.{number_of}

digits : IsNumeralModel (λ ds. all_ascii_digits ds ≡ true) (digits_value 10)
digits = numerals_by_value _ tells_all_ascii_digits

all_three : (a b c : Bool) → (a && (b && c)) ≡ true → (a ≡ true) × (b ≡ true) × (c ≡ true)
all_three true true true all = (refl, refl, refl)
all_three true true false all = absurd (search rules)
all_three true false c all = absurd (search rules)
all_three false b c all = absurd (search rules)

filled_has : (n : ℕ) → not (eqb n 0) ≡ true → 0 < n
filled_has n filled = search (rules, arith, filled)

-- What is read of a numeral is the number that its word writes.
read_number : {E : Type 0} (word : List ℕ) (r : Result ℕ E) → OkIff r ((all_ascii_digits word ≡ true) × (0 < length word) × (digits_value 10 word < 2 ^ 64)) (digits_value 10 word) → result_ok r ≡ number_of word
read_number word (Ok n) is =
    let filled : not (eqb (length word) 0) ≡ true = search (rules, arith, is.0.1) in
    rw (filled, is.0.0, lt-ltb (digits_value 10 word) (2 ^ 64) is.0.2) (ap Some is.1)
read_number word (Err e) fails =
    cond_both (not (eqb (length word) 0) && (all_ascii_digits word && ltb (digits_value 10 word) (2 ^ 64))) (Some (digits_value 10 word)) None (λ o. None ≡ o) (λ yes. let all = all_three (not (eqb (length word) 0)) (all_ascii_digits word) (ltb (digits_value 10 word) (2 ^ 64)) yes in absurd (fails (all.1, filled_has (length word) all.0, ltb-true _ _ all.2))) (λ no. refl)

pub parsed : {E : Type 0} (word : List ℕ) (r : Result ℕ E) → ParsesUnsigned 64 10 word r → (get_or word 0 0 ≡ 43 → ⊥) → result_ok r ≡ number_of word
parsed word r reads unsigned = read_number word r (parse_plain digits 64 word r reads unsigned)
