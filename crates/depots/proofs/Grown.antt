-- A table that a push has made longer. Assumes nothing.
use Rattle.std.proofs.Common.{◌≡◌, cond, List, [], ◌∷◌, ◌++◌, is_ok, Ok, Result, ap, ◌∙◌}

-- by a push that did not fail
pub grown : {X T E : Type 0} (xs ys : List X) (x : X) (r : Result T E) (t : T) → ys ≡ cond (is_ok r) (xs ++ x ∷ []) xs → r ≡ Ok t → ys ≡ xs ++ x ∷ []
grown xs ys x r t is fine = is ∙ ap (λ r. cond (is_ok r) (xs ++ x ∷ []) xs) fine
