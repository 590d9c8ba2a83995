-- A whole text as a formula. Assumes nothing.
use Rattle.std.proofs.Common.{◌≡◌, ℕ, ◌≤◌, List, [], ◌∷◌, length, Err, sym, ap, ◌∙◌, arith, length-append}
use Rattle.std.proofs.lemmas.List.{append-nil}
use Rattle.formulas.specs.declared.tree.Unread.{Unread}
use Rattle.formulas.specs.declared.tree.Unread.TheVariants.{NotItsForm, NoMemory}
use Rattle.formulas.specs.Formulas.{Formula, Formulas, fact, neg, all, none, more}
use Rattle.formulas.specs.Reading.{Begins, Formed, Spells, Answers}
use Rattle.formulas.specs.Spelling.{FactText, WellTexted, EachFactIn, spelled, spelled_all, spelled_on, size_of, size_in}
use Rattle.formulas.proofs.Unique.{closes, unique}

spells_begins : (d : ℕ) (text : List ℕ) (p : Formula (List ℕ)) → Spells d text p → Begins d text p []
spells_begins d text p s = record { text_is = sym (append-nil (spelled p) ∙ s.text_is); facts = s.facts; shallow = s.shallow; closes = closes p [] tt }

-- where something follows the formula, the text is none
pub goes_further : (d : ℕ) (text : List ℕ) (p : Formula (List ℕ)) (rest : List ℕ) → Begins d text p rest → (length rest ≡ 0 → ⊥) → (q : Formula (List ℕ)) → Spells d text q → ⊥
goes_further d text p rest b some q s =
    let other = spells_begins d text q s in
    some (ap length (unique p q rest [] b.facts other.facts b.closes other.closes (sym b.text_is ∙ other.text_is)).1)

pub refused_whole : (d : ℕ) (text : List ℕ) (e : Unread) → Formed d text (Err e) → Answers d text (Err e)
refused_whole d text NotItsForm h = λ p s. h p [] (spells_begins d text p s)
refused_whole d text NoMemory h = tt

mutual
  -- a formula is no larger than its text is long
  size_fits : (p : Formula (List ℕ)) → WellTexted p → size_of p ≤ length (spelled p)
  size_fits (fact f) w = omega (arith, w.0)
  size_fits (neg p) w = omega (arith, size_fits p w)
  size_fits (all ps) w = omega (arith, size-fits_all ps w, length-append (spelled_all ps) (41 ∷ []))

  size-fits_all : (ps : Formulas (List ℕ)) → EachFactIn FactText ps → size_in ps ≤ length (spelled_all ps)
  size-fits_all none w = omega arith
  size-fits_all (more p ps) w = omega (arith, size_fits p w.0, size-fits_on ps w.1, length-append (spelled p) (spelled_on ps))

  size-fits_on : (ps : Formulas (List ℕ)) → EachFactIn FactText ps → size_in ps ≤ length (spelled_on ps)
  size-fits_on none w = omega arith
  size-fits_on (more p ps) w = omega (arith, size_fits p w.0, size-fits_on ps w.1, length-append (spelled p) (spelled_on ps))

-- nor than a text that begins with it
pub size_begins : (d : ℕ) (text : List ℕ) (p : Formula (List ℕ)) (rest : List ℕ) → Begins d text p rest → size_of p ≤ length text
size_begins d text p rest b = omega (arith, size_fits p b.facts, ap length b.text_is, length-append (spelled p) rest)
