use Rattle.std.proofs.Common.{◌≡◌, ℕ, suc, ◌<◌, ◌≤◌, ◌==◌, Bool, true, false, cond, leb, Some, Less, Equal, Greater, sym, refl, ap, ◌∙◌, arith, rules}
use Rattle.std.proofs.lemmas.Bool.{leb-false, leb-true}
use Rattle.std.proofs.lemmas.Fn.{always_returns_same}
use Rattle.std.specs.Ordering.{is_lt, nat_cmp}
use Rattle.std.specs.Result.{result_err}
use Rattle.sheets.specs.Refusals.{number_of}
use Rattle.depots.specs.Troubles.{lower_of}
use Rattle.depots.proofs.troubles.both.Goals as goal

-- the second of two where its number is lower, and else the first
module _ {X : Type 0} (x y : X) (n k : ℕ) where
  by_tests : (less same no_more : Bool) → (less ≡ true → k < n) → (less ≡ false → n < suc k) → (no_more ≡ true → n ≤ k) → (no_more ≡ false → k < n) → Some (cond (is_lt (cond less Less (cond same Equal Greater))) y x) ≡ cond no_more (Some x) (Some y)
  by_tests true same true below not_below within beyond = absurd (omega (arith, below refl, within refl))
  by_tests true same false below not_below within beyond = refl
  by_tests false true true below not_below within beyond = refl
  by_tests false false true below not_below within beyond = refl
  by_tests false same false below not_below within beyond = absurd (omega (arith, not_below refl, beyond refl))

  lesser : Some (cond (is_lt (nat_cmp k n)) y x) ≡ cond (leb n k) (Some x) (Some y)
  lesser = by_tests (leb (suc k) n) (k == n) (leb n k) (leb-true (suc k) n) (leb-false (suc k) n) (leb-true n k) (leb-false n k)

pub returns-in-Err-Err : goal.returns-in-Err-Err
returns-in-Err-Err g c =
    let least = c.min_by_key.ensures number_of (always_returns_same _ (λ x r. r ≡ number_of x.0.now) _ (λ x r f' k. search rules)) in
    ap Some least ∙ lesser c.in-Err-Err.a c.in-Err-Err.b (number_of c.in-Err-Err.a) (number_of c.in-Err-Err.b)
    ∙ ap (λ r. lower_of (result_err r) (Some c.in-Err-Err.b)) (sym c.in-Err-Err.is-0)
    ∙ ap (λ r. lower_of (result_err c.args.first) (result_err r)) (sym c.in-Err-Err.is-1)
