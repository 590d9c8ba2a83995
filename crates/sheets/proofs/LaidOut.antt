-- What a walk over the lines of a depot sheet sees of the layout of each. Assumes nothing.
use Rattle.std.proofs.Common.{◌≡◌, ◌<◌, Bool, ◌||◌, List, [], ◌∷◌, ◌++◌, Some, Option, sym, refl, ◌∙◌, subst, inl, inr, arith}
use Rattle.std.proofs.lemmas.List.Recursion.{or_push}
use Rattle.sheets.specs.declared.layout.Above.{Above}
use Rattle.sheets.specs.declared.letters.Letter.{Letter}
use Rattle.sheets.specs.declared.refusals.Refusal.{Refusal}
use Rattle.sheets.specs.Layout.{letter_on, says_sight, last_letter, is_sight, above_of, LayoutFault}
use Rattle.sheets.specs.Lines.{Line}
use Rattle.sheets.specs.Refusals.{number_of}

last-push : (ls : List Line) (l : Line) → last_letter (ls ++ l ∷ []) ≡ letter_on l
last-push [] l = refl
last-push (m ∷ []) l = refl
last-push (m ∷ n ∷ ls) l = last-push (n ∷ ls) l

sight_push : (ls : List Line) (l : Line) → is_sight (ls ++ l ∷ []) ≡ (is_sight ls || says_sight l)
sight_push = or_push is_sight says_sight refl (λ l ls. refl)

-- what stands above the line below one more, from its two parts
pub above_of-push : (ls : List Line) (l : Line) (k : Letter) (a : Above) → letter_on l ≡ Some k → a.letter ≡ Some k → a.sight ≡ (is_sight ls || says_sight l) → a ≡ above_of (ls ++ l ∷ [])
above_of-push ls l k a here letter sight = of_parts a.letter a.sight (letter ∙ sym here ∙ sym (last-push ls l)) (sight ∙ sym (sight_push ls l))
  where
    of_parts : (o : Option Letter) (t : Bool) → o ≡ last_letter (ls ++ l ∷ []) → t ≡ is_sight (ls ++ l ∷ []) → ◌≡◌ {A = Above} (record { letter = o; sight = t }) (above_of (ls ++ l ∷ []))
    of_parts o t p q = cc

-- what is wrong with the layout of a line is told before anything that is wrong with its fields
pub layout_first : (a : Above) (l : Line) (w : Refusal) → LayoutFault a l w → number_of w < 5
layout_first a l w (inl f) = subst (λ u. number_of u < 5) (sym f.0) (omega arith)
layout_first a l w (inr (inl f)) = subst (λ u. number_of u < 5) (sym f.0) (omega arith)
layout_first a l w (inr (inr f)) = subst (λ u. number_of u < 5) (sym f.0) (omega arith)
