-- A report lies within the buffer that it is written into. Assumes nothing.
use Rattle.std.proofs.Common.{rules, ◌≡◌, ℕ, ◌≤◌, true, eqb, List, [], ◌∷◌, length, drop, Ok, Err, Result, MatchResult, refl, ap, arith, length-append}
use Rattle.std.specs.Result.{IsErrAnd}
use Rattle.sheets.specs.declared.faults.Fault.{Fault}
use Rattle.sheets.proofs.Handed.{value_kept}
use Rattle.reports.specs.Checked.{Checked}

within : (r : Result ℕ Fault) (depot plan before after : List ℕ) (n : ℕ) → Checked depot plan before after r → r ≡ Ok n → n ≤ length after
within (Ok m) depot plan before after n done is =
    let same : m ≡ n = cc in
    omega (arith, same, done.2, ap length done.3, length-append done.0 (drop m before))
within (Err f) depot plan before after n done is = absurd (search rules)

-- The length that `check` tells, where its faults are turned into other errors.
pub fits : {E : Type 0} (P : Fault → E → Type 0) (r : Result ℕ Fault) (s : Result ℕ E) (depot plan before after : List ℕ) (n : ℕ) → Checked depot plan before after r → MatchResult r (λ x. s ≡ Ok x) (λ e. IsErrAnd s (P e)) → s ≡ Ok n → n ≤ length after
fits P r s depot plan before after n done turned is = within r depot plan before after n done (value_kept P r s n turned is)

-- A text of no bytes is empty.
pub no_bytes : (bs : List ℕ) → true ≡ eqb (length bs) 0 → bs ≡ []
no_bytes [] none = refl
no_bytes (b ∷ bs) none = absurd (search rules)
