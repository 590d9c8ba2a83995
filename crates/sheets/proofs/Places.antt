-- What stands at a place of a list, as a walk that drops one element a turn comes to it. Assumes nothing.
use Rattle.std.proofs.Common.{◌≡◌, ℕ, zero, suc, ◌+◌, List, [], ◌∷◌, ◌++◌, take, drop, Some, sym, refl, ap, ◌∙◌}
use Rattle.std.specs.List.{slice_get}
use Rattle.std.proofs.lemmas.List.{drop-drop, take_more}
use Rattle.std.proofs.lemmas.Option.{same_Some, slice_get_within, slice_get-get_or}

nth_drop : {X : Type 0} (xs : List X) (i : ℕ) → slice_get xs i ≡ slice_get (drop i xs) 0
nth_drop [] zero = refl
nth_drop [] (suc i) = refl
nth_drop (x ∷ xs) zero = refl
nth_drop (x ∷ xs) (suc i) = nth_drop xs i

-- what stands at a place, and what is left after it
module _ {X : Type 0} (xs : List X) (i : ℕ) (x : X) (ys : List X) (here : drop i xs ≡ x ∷ ys) where
  pub nth_here : slice_get xs i ≡ Some x
  nth_here = nth_drop xs i ∙ ap (λ l. slice_get l 0) here

  pub drop-next : drop (i + 1) xs ≡ ys
  drop-next = sym (drop-drop 1 i xs) ∙ ap (drop 1) here

  -- one element more in front of a place
  pub take_next : take (i + 1) xs ≡ take i xs ++ x ∷ []
  take_next =
      let within = slice_get_within xs i x nth_here in
      take_more xs i x within ∙ ap (λ y. take i xs ++ y ∷ []) (same_Some _ _ (sym (slice_get-get_or xs i x within) ∙ nth_here))
