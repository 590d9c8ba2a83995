-- A list in brackets, read formula by formula. Assumes nothing.
use Rattle.std.proofs.Common.{◌≡◌, ℕ, Bool, true, List, [], ◌∷◌, ◌++◌, Bor, Err, refl, sym, ap, ◌∙◌, subst}
use Rattle.formulas.specs.declared.tree.Formula.{Formula as Tree}
use Rattle.formulas.specs.declared.tree.Unread.{Unread}
use Rattle.formulas.specs.declared.tree.Unread.TheVariants.{NotItsForm, NoMemory}
use Rattle.formulas.specs.Formulas.{Formulas, none, more}
use Rattle.formulas.specs.Reading.{Begins, Formed, GoesOn, FormedOn}
use Rattle.formulas.specs.Shapes.{texted, texted_all}
use Rattle.formulas.proofs.Steps.{Lacks, closed, carried_on, not_carried_on, no_first, broken_off}

-- the formulas of some trees, and others after them
abbrev before : List (Tree (Bor (List ℕ))) → Formulas (List ℕ) → Formulas (List ℕ)
before [] qs = qs
before (t ∷ ts) qs = more (texted t) (before ts qs)

before_more : (ts : List (Tree (Bor (List ℕ)))) (t : Tree (Bor (List ℕ))) (qs : Formulas (List ℕ)) → before ts (more (texted t) qs) ≡ before (ts ++ (t ∷ [])) qs
before_more [] t qs = refl
before_more (s ∷ ts) t qs = ap (more (texted s)) (before_more ts t qs)

before_none : (ts : List (Tree (Bor (List ℕ)))) → before ts none ≡ texted_all ts
before_none [] = refl
before_none (t ∷ ts) = ap (more (texted t)) (before_none ts)

module _ (d : ℕ) (text : List ℕ) where
  -- with some formulas read, what is left of the text decides how the text as a whole goes on
  pub record Onward (ts : List (Tree (Bor (List ℕ)))) (left : List ℕ) : Type 0 where
    pub found : (qs : Formulas (List ℕ)) (rest : List ℕ) → GoesOn d left qs rest → GoesOn d text (before ts qs) rest
    pub missed : ((qs : Formulas (List ℕ)) (rest : List ℕ) → GoesOn d left qs rest → ⊥) → (qs : Formulas (List ℕ)) (rest : List ℕ) → GoesOn d text qs rest → ⊥

  -- with some formulas read, of which the row has each where none of them wanted for room, the same
  pub record Kept (all : Bool) (row : List (Tree (Bor (List ℕ)))) (left : List ℕ) : Type 0 where
    pub read : List (Tree (Bor (List ℕ)))
    pub onward : Onward read left
    pub row_is : all ≡ true → row ≡ read

module _ {d : ℕ} {text : List ℕ} {ts : List (Tree (Bor (List ℕ)))} {left : List ℕ} (so_far : Onward d text ts left) where
  pub not_read : (e : Unread) → Formed d left (Err e) → FormedOn d text (Err e)
  not_read NotItsForm h = so_far.missed (no_first d left h)
  not_read NoMemory h = tt

  module _ (t : Tree (Bor (List ℕ))) (after : List ℕ) (first : Begins d left (texted t) after) where
    pub one_read : (next : List ℕ) → after ≡ 38 ∷ next → Onward d text (ts ++ (t ∷ [])) next
    one_read next is = record {
      found = λ qs rest g. subst (λ l. GoesOn d text l rest) (before_more ts t qs) (so_far.found (more (texted t) qs) rest (carried_on d left (texted t) after first next is qs rest g));
      missed = λ h. so_far.missed (not_carried_on d left (texted t) after first next is h);
    }

    pub all_read : (rest : List ℕ) → after ≡ 41 ∷ rest → GoesOn d text (texted_all (ts ++ (t ∷ []))) rest
    all_read rest is = subst (λ l. GoesOn d text l rest) (before_more ts t none ∙ before_none (ts ++ (t ∷ []))) (so_far.found (more (texted t) none) rest (closed d left (texted t) after first rest is))

    pub neither : Lacks 38 after → Lacks 41 after → FormedOn d text (Err NotItsForm)
    neither no-and no-close = so_far.missed (broken_off d left (texted t) after first no-and no-close)

module _ {d : ℕ} {text : List ℕ} {all : Bool} {row : List (Tree (Bor (List ℕ)))} {left : List ℕ} (so_far : Kept d text all row left) where
  -- where one more had room too, and those before it had
  module _ (t : Tree (Bor (List ℕ))) (after : List ℕ) (first : Begins d left (texted t) after) (still : Bool) (longer : List (Tree (Bor (List ℕ)))) (adds : still ≡ true → (all ≡ true) × (longer ≡ row ++ (t ∷ []))) where
    added : still ≡ true → longer ≡ so_far.read ++ (t ∷ [])
    added had = (adds had).1 ∙ ap (λ l. l ++ (t ∷ [])) (so_far.row_is (adds had).0)

    pub one_kept : (next : List ℕ) → after ≡ 38 ∷ next → Kept d text still longer next
    one_kept next is = record { read = so_far.read ++ (t ∷ []); onward = one_read so_far.onward t after first next is; row_is = added }

    pub all_kept : (rest : List ℕ) → after ≡ 41 ∷ rest → still ≡ true → GoesOn d text (texted_all longer) rest
    all_kept rest is had = subst (λ l. GoesOn d text (texted_all l) rest) (sym (added had)) (all_read so_far.onward t after first rest is)
