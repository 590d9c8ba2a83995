-- The steps of the readers: what a text begins with, from what its parts do. Assumes nothing.
use Rattle.std.proofs.Common.{◌≡◌, ◌≢◌, ℕ, ◌+◌, ◌-◌, ◌<◌, Bool, true, false, not, cond, List, [], ◌∷◌, ◌++◌, length, drop, sym, refl, ap, subst, ⊎_elim, ◌∙◌, arith}
use Rattle.std.specs.List.{AllByRecursion, before_first, position_or_len}
use Rattle.std.proofs.lemmas.List.{take-append-drop, drop_more, at_drop_all}
use Rattle.std.proofs.lemmas.Bool.{cases_lt}
use Rattle.std.proofs.lemmas.List.Folds.{length-prefix_len}
use Rattle.std.proofs.lemmas.List.Sums.{passes_at_first, take_while-cons}
use Rattle.formulas.specs.Formulas.{Formula, Formulas, fact, neg, all, none, more}
use Rattle.formulas.specs.Reading.{Ends, Begins, GoesOn}
use Rattle.formulas.specs.Spelling.{is_mark, FactText, spelled, spelled_all, spelled_on}
use Rattle.formulas.proofs.Unique.{closes, on-ends, fact_no_mark, bracket_text, more-text, unique, heads}

-- A text does not begin with a byte.
abbrev pub Lacks : ℕ → List ℕ → Type 0
Lacks b text = (rest : List ℕ) → text ≢ b ∷ rest

-- the bytes before the first mark are no marks
plain : (text : List ℕ) → AllByRecursion (λ b. is_mark b ≡ false) (before_first is_mark text)
plain [] = tt
plain (b ∷ bs) = subst (AllByRecursion (λ x. is_mark x ≡ false)) (sym (take_while-cons (λ x. not (is_mark x)) b bs)) (by_first (is_mark b) refl (plain bs))
  where
    by_first : (t : Bool) → is_mark b ≡ t → AllByRecursion (λ x. is_mark x ≡ false) (before_first is_mark bs) → AllByRecursion (λ x. is_mark x ≡ false) (cond (not t) (b ∷ before_first is_mark bs) [])
    by_first true is later = tt
    by_first false is later = (is, later)

-- after them the text ends or a mark stands
at_mark : (text : List ℕ) → Ends (drop (position_or_len is_mark text) text)
at_mark text =
    let n = position_or_len is_mark text in
    ⊎_elim
    (λ here. subst Ends (sym (drop_more text n 0 here)) (passes_at_first is_mark text 0 here))
    (λ past. subst Ends (sym (at_drop_all (λ l. l) text n past)) tt)
    (cases_lt n (length text))

pub fact_here : (text : List ℕ) → (position_or_len is_mark text ≡ 0 → ⊥) → Begins 0 text (fact (before_first is_mark text)) (drop (position_or_len is_mark text) text)
fact_here text some = record {
  text_is = sym (take-append-drop (position_or_len is_mark text) text);
  facts = (omega (arith, length-prefix_len (λ b. not (is_mark b)) text), plain text);
  shallow = omega arith;
  closes = at_mark text;
}

no_run : (f rest : List ℕ) → FactText f → position_or_len is_mark (f ++ rest) ≡ 0 → ⊥
no_run [] rest w e = omega (arith, w.0)
no_run (b ∷ f) rest w e = let more : cond (not (is_mark b)) (1 + position_or_len is_mark (f ++ rest)) 0 ≡ 1 + position_or_len is_mark (f ++ rest) = ap (λ t. cond (not t) (1 + position_or_len is_mark (f ++ rest)) 0) w.1.0 in omega arith

pub no_fact_here : (text : List ℕ) → position_or_len is_mark text ≡ 0 → (p : Formula (List ℕ)) (rest : List ℕ) → Begins 0 text p rest → ⊥
no_fact_here text e (fact f) rest b = no_run f rest b.facts (sym (ap (position_or_len is_mark) b.text_is) ∙ e)
no_fact_here text e (neg p) rest b = omega (arith, b.shallow)
no_fact_here text e (all ps) rest b = omega (arith, b.shallow)

-- a text that begins with no `!` and no opening bracket can begin with a fact alone
module _ (d : ℕ) (text : List ℕ) (no-turn : Lacks 33 text) (no-bracket : Lacks 40 text) where
  pub deeper : (p : Formula (List ℕ)) (rest : List ℕ) → Begins 0 text p rest → Begins d text p rest
  deeper p rest b = record { text_is = b.text_is; facts = b.facts; shallow = omega (arith, b.shallow); closes = b.closes }

  pub only_fact : ((p : Formula (List ℕ)) (rest : List ℕ) → Begins 0 text p rest → ⊥) → (p : Formula (List ℕ)) (rest : List ℕ) → Begins d text p rest → ⊥
  only_fact none_here (fact f) rest b = none_here (fact f) rest (record { text_is = b.text_is; facts = b.facts; shallow = omega arith; closes = b.closes })
  only_fact none_here (neg p) rest b = no-turn (spelled p ++ rest) b.text_is
  only_fact none_here (all ps) rest b = no-bracket (spelled_all ps ++ 41 ∷ rest) (b.text_is ∙ bracket_text ps rest)

-- after a `!`
module _ (d : ℕ) (text after : List ℕ) (deep : 0 < d) (is : text ≡ 33 ∷ after) where
  pub turned : (p : Formula (List ℕ)) (rest : List ℕ) → Begins (d - 1) after p rest → Begins d text (neg p) rest
  turned p rest b = record { text_is = is ∙ ap (λ l. 33 ∷ l) b.text_is; facts = b.facts; shallow = omega (arith, b.shallow); closes = b.closes }

  pub not_turned : ((p : Formula (List ℕ)) (rest : List ℕ) → Begins (d - 1) after p rest → ⊥) → (p : Formula (List ℕ)) (rest : List ℕ) → Begins d text p rest → ⊥
  not_turned none_here (fact f) rest b = fact_no_mark f rest after 33 b.facts refl (sym b.text_is ∙ is)
  not_turned none_here (neg p) rest b =
      none_here p rest (record { text_is = ap (drop 1) (sym is ∙ b.text_is); facts = b.facts; shallow = omega (arith, b.shallow); closes = b.closes })
  not_turned none_here (all ps) rest b = let bad = heads 33 40 _ _ (sym is ∙ b.text_is) in omega arith

-- after brackets with nothing in them
pub no_formulas : (d : ℕ) (text rest : List ℕ) → 0 < d → text ≡ 40 ∷ 41 ∷ rest → Begins d text (all none) rest
no_formulas d text rest deep is = record { text_is = is; facts = tt; shallow = omega (arith, deep); closes = tt }

-- what goes on after an opening bracket or an `&` begins with a formula
pub goes_on_first : (d : ℕ) (text : List ℕ) (p : Formula (List ℕ)) (ps : Formulas (List ℕ)) (rest : List ℕ) → GoesOn d text (more p ps) rest → Begins d text p (spelled_on ps ++ 41 ∷ rest)
goes_on_first d text p ps rest g = record {
  text_is = ap (drop 1) g.text_is ∙ more-text p ps rest;
  facts = g.facts.0;
  shallow = omega (arith, g.shallow);
  closes = closes p (spelled_on ps ++ 41 ∷ rest) (on-ends ps rest);
}

-- after an opening bracket
module _ (d : ℕ) (text after : List ℕ) (deep : 0 < d) (is : text ≡ 40 ∷ after) where
  pub bracketed : (ps : Formulas (List ℕ)) (rest : List ℕ) → GoesOn (d - 1) after ps rest → Begins d text (all ps) rest
  bracketed none rest g = let bad = heads 38 41 _ _ g.text_is in absurd (omega arith)
  bracketed (more p ps) rest g = record {
    text_is = is ∙ ap (λ l. 40 ∷ l) (ap (drop 1) g.text_is) ∙ sym (bracket_text (more p ps) rest);
    facts = g.facts;
    shallow = omega (arith, g.shallow);
    closes = tt;
  }

  pub not_bracketed : Lacks 41 after → ((ps : Formulas (List ℕ)) (rest : List ℕ) → GoesOn (d - 1) after ps rest → ⊥) → (p : Formula (List ℕ)) (rest : List ℕ) → Begins d text p rest → ⊥
  not_bracketed other none_here (fact f) rest b = fact_no_mark f rest after 40 b.facts refl (sym b.text_is ∙ is)
  not_bracketed other none_here (neg p) rest b = let bad = heads 40 33 _ _ (sym is ∙ b.text_is) in omega arith
  not_bracketed other none_here (all none) rest b = other rest (ap (drop 1) (sym is ∙ b.text_is))
  not_bracketed other none_here (all (more p ps)) rest b =
      none_here (more p ps) rest (record { text_is = ap (λ l. 38 ∷ l) (ap (drop 1) (sym is ∙ b.text_is ∙ bracket_text (more p ps) rest)); facts = b.facts; shallow = omega (arith, b.shallow) })

-- in brackets, where a formula stands first
pub no_first : (d : ℕ) (text : List ℕ) → ((p : Formula (List ℕ)) (rest : List ℕ) → Begins d text p rest → ⊥) → (ps : Formulas (List ℕ)) (rest : List ℕ) → GoesOn d text ps rest → ⊥
no_first d text none_here none rest g = let bad = heads 38 41 _ _ g.text_is in omega arith
no_first d text none_here (more p ps) rest g = none_here p (spelled_on ps ++ 41 ∷ rest) (goes_on_first d text p ps rest g)

module _ (d : ℕ) (text : List ℕ) (p : Formula (List ℕ)) (after : List ℕ) (first : Begins d text p after) where
  pub closed : (rest : List ℕ) → after ≡ 41 ∷ rest → GoesOn d text (more p none) rest
  closed rest is = record {
    text_is = ap (λ l. 38 ∷ l) (first.text_is ∙ ap (λ l. spelled p ++ l) is ∙ sym (more-text p none rest));
    facts = (first.facts, tt);
    shallow = omega (arith, first.shallow);
  }

  pub carried_on : (next : List ℕ) → after ≡ 38 ∷ next → (ps : Formulas (List ℕ)) (rest : List ℕ) → GoesOn d next ps rest → GoesOn d text (more p ps) rest
  carried_on next is ps rest g = record {
    text_is = ap (λ l. 38 ∷ l) (first.text_is ∙ ap (λ l. spelled p ++ l) (is ∙ g.text_is) ∙ sym (more-text p ps rest));
    facts = (first.facts, g.facts);
    shallow = omega (arith, first.shallow, g.shallow);
  }

  -- what follows the first formula is what follows it in any reading
  same_after : (q : Formula (List ℕ)) (qs : Formulas (List ℕ)) (rest : List ℕ) → GoesOn d text (more q qs) rest → after ≡ spelled_on qs ++ 41 ∷ rest
  same_after q qs rest g =
      let other = goes_on_first d text q qs rest g in
      (unique p q after (spelled_on qs ++ 41 ∷ rest) first.facts other.facts first.closes other.closes (sym first.text_is ∙ other.text_is)).1

  pub not_carried_on : (next : List ℕ) → after ≡ 38 ∷ next → ((ps : Formulas (List ℕ)) (rest : List ℕ) → GoesOn d next ps rest → ⊥) → (ps : Formulas (List ℕ)) (rest : List ℕ) → GoesOn d text ps rest → ⊥
  not_carried_on next is none_here none rest g = let bad = heads 38 41 _ _ g.text_is in omega arith
  not_carried_on next is none_here (more q qs) rest g =
      none_here qs rest (record { text_is = sym is ∙ same_after q qs rest g; facts = g.facts.1; shallow = omega (arith, g.shallow) })

  pub broken_off : Lacks 38 after → Lacks 41 after → (ps : Formulas (List ℕ)) (rest : List ℕ) → GoesOn d text ps rest → ⊥
  broken_off no-and no-close none rest g = let bad = heads 38 41 _ _ g.text_is in omega arith
  broken_off no-and no-close (more q none) rest g = no-close rest (same_after q none rest g)
  broken_off no-and no-close (more q (more s ss)) rest g = no-and ((spelled s ++ spelled_on ss) ++ 41 ∷ rest) (same_after q (more s ss) rest g)
