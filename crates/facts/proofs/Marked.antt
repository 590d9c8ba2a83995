-- A row that is marked place by place. Assumes nothing.
use Rattle.std.proofs.Common.{◌≡◌, ℕ, ◌+◌, ◌<◌, ◌≤◌, Bool, false, List, [], ◌∷◌, ◌++◌, length, get_or, take, drop, set, min, sym, refl, ap, ◌∙◌, ⊎_elim, append_assoc, arith}
use Rattle.std.proofs.lemmas.Bool.{cases_lt}
use Rattle.std.proofs.lemmas.List.{append-nil, take-append-drop, take_all, take_more_set, drop_all, drop_more, drop-set-lt}
use Rattle.facts.specs.Listed.{remarked}

no_row : {F : Type 0} (settle : Bool → F → Bool) (facts : List F) → remarked settle facts [] ≡ []
no_row settle [] = refl
no_row settle (f ∷ facts) = refl

module _ {F : Type 0} (settle : Bool → F → Bool) (facts : List F) (entry : List Bool) where
  -- below i the row is marked, and what is left of it is still to be
  abbrev pub Marking : List Bool → ℕ → Type 0
  Marking row i = take i row ++ remarked settle (drop i facts) (drop i row) ≡ remarked settle facts entry

  pub mark_more : (row : List Bool) (i : ℕ) (f : F) (v : Bool) → i < length facts → i < length row → f ≡ get_or facts i f → v ≡ settle (get_or row i false) f → Marking row i → Marking (set row i v) (i + 1)
  mark_more row i f v listed within here is sofar =
      let next : i < i + 1 = omega arith in
      let rest = remarked settle (drop (i + 1) facts) (drop (i + 1) row) in
      ap (λ l. l ++ remarked settle (drop (i + 1) facts) (drop (i + 1) (set row i v))) (take_more_set row i v within)
      ∙ ap (λ l. (take i row ++ v ∷ []) ++ remarked settle (drop (i + 1) facts) l) (drop-set-lt (i + 1) row i v next)
      ∙ append_assoc (take i row) (v ∷ []) rest
      ∙ ap (λ t. take i row ++ t ∷ rest) (is ∙ ap (settle (get_or row i false)) here)
      ∙ sym (ap (λ l. take i row ++ remarked settle l (drop i row)) (drop_more facts i f listed)
      ∙ ap (λ l. take i row ++ remarked settle (get_or facts i f ∷ drop (i + 1) facts) l) (drop_more row i false within))
      ∙ sofar

  -- past the facts the row stays
  stays : (row : List Bool) (i : ℕ) → length facts ≤ i → take i row ++ remarked settle (drop i facts) (drop i row) ≡ row
  stays row i over = ap (λ l. take i row ++ remarked settle l (drop i row)) (drop_all i facts over) ∙ take-append-drop i row

  pub mark_all : (row : List Bool) (i : ℕ) → min (length facts) (length row) ≤ i → Marking row i → row ≡ remarked settle facts entry
  mark_all row i end sofar = ⊎_elim (λ (below : i < length facts). ended (omega arith) ∙ sofar) (λ (over : length facts ≤ i). sym (stays row i over) ∙ sofar) (cases_lt i (length facts))
    where
      ended : length row ≤ i → row ≡ take i row ++ remarked settle (drop i facts) (drop i row)
      ended past = sym (ap (λ l. take i row ++ remarked settle (drop i facts) l) (drop_all i row past) ∙ ap (λ l. take i row ++ l) (no_row settle (drop i facts)) ∙ append-nil (take i row) ∙ take_all i row past)
