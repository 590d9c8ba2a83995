-- What is read of a word writes a number. Assumes nothing.
use Rattle.std.proofs.Common.{◌≡◌, ℕ, ◌^◌, ◌<◌, true, List, length, get_or, Ok, Err, Result, IfSome}
use Rattle.std.specs.Result.{OkIff, result_ok}
use Rattle.std.specs.Str.{all_ascii_digits}
use Rattle.std.specs.Str.Parse.{ParsesUnsigned, digits_value}
use Rattle.std.proofs.lemmas.Str.Parse.{IsNumeralModel, numerals_by_value, parse_plain, tells_all_ascii_digits}
use Rattle.batch.specs.Pairs.{WritesNumber}

digits : IsNumeralModel (λ ds. all_ascii_digits ds ≡ true) (digits_value 10)
digits = numerals_by_value _ tells_all_ascii_digits

read_number : {E : Type 0} (word : List ℕ) (r : Result ℕ E) → OkIff r ((all_ascii_digits word ≡ true) × (0 < length word) × (digits_value 10 word < 2 ^ 64)) (digits_value 10 word) → IfSome (result_ok r) (λ n. WritesNumber word n)
read_number word (Ok n) is = (is.0.0, is.0.1, is.1)
read_number word (Err e) fails = tt

-- A number that is read of a word without a sign is one that the word writes.
pub parsed : {E : Type 0} (word : List ℕ) (r : Result ℕ E) → ParsesUnsigned 64 10 word r → (get_or word 0 0 ≡ 43 → ⊥) → IfSome (result_ok r) (λ n. WritesNumber word n)
parsed word r reads unsigned = read_number word r (parse_plain digits 64 word r reads unsigned)
