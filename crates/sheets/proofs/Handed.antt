-- What `map_err` hands on. Assumes nothing.
use Rattle.std.proofs.Common.{◌≡◌, ℕ, Result, Ok, Err, MatchResult, IsErrAnd, sym, refl, ap, ◌∙◌, subst, arith}
use Rattle.std.specs.Result.{result_ok}
use Rattle.std.proofs.lemmas.Option.{same_Some}

module _ {X E F : Type 0} (Makes : E → F → Type 0) where
  -- a value is handed on as it is
  pub value_kept : (x : Result X E) (y : Result X F) (v : X) → MatchResult x (λ u. y ≡ Ok u) (λ e. IsErrAnd y (Makes e)) → y ≡ Ok v → x ≡ Ok v
  value_kept (Ok u) y v told is = ap Ok (same_Some u v (ap result_ok (sym told ∙ is)))
  value_kept (Err e) y v told is = absurd (subst (λ z. IsErrAnd z (Makes e)) is told)

  -- an error is made of the error that came
  pub error_made : (x : Result X E) (y : Result X F) (f : F) → MatchResult x (λ u. y ≡ Ok u) (λ e. IsErrAnd y (Makes e)) → y ≡ Err f → (e : E) × (x ≡ Err e) × Makes e f
  error_made (Ok u) y f told is = absurd (subst (λ z. z ≡ Ok u → ⊥) (sym is) (λ e. let z : ◌≡◌ {A = ℕ} 0 1 = cc in omega arith) told)
  error_made (Err e) y f told is = (e, refl, subst (λ z. IsErrAnd z (Makes e)) is told)
