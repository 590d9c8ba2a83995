-- Rows that are made by a function of the index. Assumes nothing.
use Rattle.std.proofs.Common.{◌≡◌, ℕ, zero, suc, ◌+◌, ◌<◌, ◌≤◌, List, get_or, ◌∙◌, ap, sym, subst, inl, inr, arith}
use Rattle.std.specs.Array.{IsFromFnResult, IsFromFnResultFrom}
use Rattle.std.specs.Fn.{Called}
use Rattle.std.proofs.lemmas.Bool.{cases_eq}
use denote.Param.Members.{Mut}

-- a function that stays as it is and answers by the index alone
module _ {F X : Type 0} (g : Mut F (ℕ × Unit {0}) X) (f : F) (z : X) (want : ℕ → X) (by_index : (i : ℕ) (b : X) (q : F) → Called g f (i, tt) b q → (q ≡ f) × (b ≡ want i)) where
  made_from : (row : List X) (i n : ℕ) → IsFromFnResultFrom g f row i n → (k : ℕ) → i ≤ k → k < i + n → get_or row k z ≡ want k
  made_from row i zero each k from below = absurd (omega arith)
  made_from row i (suc n) (q, b, at, called, later) k from below = elim (cases_eq k i) [ inl here ↦ here_is here | inr past ↦ made_from row (i + 1) n (subst (λ p. IsFromFnResultFrom g p row (i + 1) n) (by_index i b q called).0 later) k (omega arith) (omega arith) ]
    where
      here_is : k ≡ i → get_or row k z ≡ want k
      here_is here = ap (λ j. get_or row j z) here ∙ at.1 z ∙ (by_index i b q called).1 ∙ ap want (sym here)

  pub made : (row : List X) (n : ℕ) → IsFromFnResult g f row n → (k : ℕ) → k < n → get_or row k z ≡ want k
  made row n result k below = made_from row 0 n result.each k (omega arith) (omega arith)
