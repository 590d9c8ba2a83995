-- What the judgement of a line tells of its faults. Assumes nothing.
use Rattle.std.proofs.Common.{◌≡◌, ℕ, Bool, true, false, List, [], ◌∷◌, length, Some, None, Option, sym, refl, ap, ◌∙◌, subst, inl, inr, ⊎_elim, arith}
use Rattle.std.proofs.lemmas.Bool.{cases_Bool, cond-true, cond-false, both_ways}
use Rattle.sheets.specs.declared.layout.Above.{Above}
use Rattle.sheets.specs.declared.letters.Letter.{Letter}
use Rattle.sheets.specs.declared.refusals.Refusal.{Refusal}
use Rattle.sheets.specs.declared.refusals.Refusal.TheVariants.{FieldCount}
use Rattle.sheets.specs.Faults.{NoLater, Lowest}
use Rattle.sheets.specs.Layout.{fields, legible, letter_on, LayoutFault}
use Rattle.sheets.specs.Letters.{fields_of, may_come, MayCome, permitted}
use Rattle.sheets.specs.Lines.{Line}
use Rattle.sheets.specs.Refusals.{rank_of}
use Rattle.std.proofs.lemmas.Option.{same_Some}
use Rattle.sheets.proofs.Table.{table-agrees}

pub no_later_itself : (xs : List ℕ) → NoLater xs xs
no_later_itself [] = tt
no_later_itself (x ∷ xs) = inr (refl, no_later_itself xs)

-- a letter that was let through is the line's, and may come
pub permitted-is : (above : Option Letter) (sight : Bool) (o : Option Letter) (k : Letter) → permitted above sight o ≡ Some k → (o ≡ Some k) × MayCome above sight k
permitted-is above sight None k is = absurd (let z : ◌≡◌ {A = ℕ} 0 1 = cc in omega arith)
permitted-is above sight (Some l) k is =
    ⊎_elim
    (λ (may : may_come above sight l ≡ true).
    let same : l ≡ k = same_Some l k (sym (cond-true _ _ _ may) ∙ is) in
    (ap Some same, subst (MayCome above sight) same ((table-agrees above sight l).0 may)))
    (λ (not : may_come above sight l ≡ false). absurd (nothing (sym (cond-false _ _ _ not) ∙ is)))
    (cases_Bool (may_come above sight l))
  where
    nothing : {X : Type 0} {k : X} → None ≡ Some k → ⊥
    nothing e = let z : ◌≡◌ {A = ℕ} 0 1 = cc in omega arith

module _ (a : Above) (l : Line) (read : true ≡ legible l) (k : Letter) (let_through : Some k ≡ permitted a.letter a.sight (letter_on l)) where
  pub k_here : letter_on l ≡ Some k
  k_here = (permitted-is a.letter a.sight (letter_on l) k (sym let_through)).0

  k_may : MayCome a.letter a.sight k
  k_may = (permitted-is a.letter a.sight (letter_on l) k (sym let_through)).1

  -- where the letter is right, only the number of fields can be wrong
  only-count : (w : Refusal) → LayoutFault a l w → (w ≡ FieldCount) × (length (fields l) ≡ fields_of k → ⊥)
  only-count w (inl f) = absurd (both_ways _ f.1 (sym read))
  only-count w (inr (inl f)) = absurd (f.1 k k_here k_may)
  only-count w (inr (inr f)) = (f.0, subst (λ m. length (fields l) ≡ fields_of m → ⊥) (same_Some f.1.0 k (sym f.1.1 ∙ k_here)) f.1.2)

  pub count-wrong : (length (fields l) ≡ fields_of k → ⊥) → Lowest (LayoutFault a l) FieldCount
  count-wrong other = record {
    holds = inr (inr (refl, (k, k_here, other)));
    first = λ v f. subst (λ u. NoLater (rank_of FieldCount) (rank_of u)) (sym (only-count v f).0) (no_later_itself (rank_of FieldCount));
  }

  pub nothing-wrong : length (fields l) ≡ fields_of k → (w : Refusal) → LayoutFault a l w → ⊥
  nothing-wrong right w f = (only-count w f).1 right
