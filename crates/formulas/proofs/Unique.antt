-- The spelling fixes the formula, whatever follows it. Assumes nothing.
use Rattle.std.proofs.Common.{◌≡◌, ℕ, true, false, List, [], ◌∷◌, ◌++◌, drop, sym, refl, ap, ◌∙◌, arith}
use Rattle.std.specs.List.{AllByRecursion}
use Rattle.std.proofs.lemmas.List.{append_assoc, append-nil}
use Rattle.formulas.specs.Formulas.{Formula, Formulas, fact, neg, all, none, more}
use Rattle.formulas.specs.Reading.{Ends, Closes}
use Rattle.formulas.specs.Spelling.{is_mark, FactText, WellTexted, EachFactIn, spelled, spelled_all, spelled_on}

-- a formula closes before a text that ends or goes on with a mark
pub closes : (p : Formula (List ℕ)) (rest : List ℕ) → Ends rest → Closes p rest
closes (fact f) rest e = e
closes (neg p) rest e = closes p rest e
closes (all ps) rest e = tt

-- what follows a formula in brackets begins with a mark
pub on-ends : (ps : Formulas (List ℕ)) (rest : List ℕ) → Ends (spelled_on ps ++ 41 ∷ rest)
on-ends none rest = refl
on-ends (more p ps) rest = refl

-- bytes that are no marks end where the first mark stands
pub facts_unique : (a b r s : List ℕ) → AllByRecursion (λ x. is_mark x ≡ false) a → AllByRecursion (λ x. is_mark x ≡ false) b → Ends r → Ends s → a ++ r ≡ b ++ s → (a ≡ b) × (r ≡ s)
facts_unique [] [] r s pa pb er es e = (refl, e)
facts_unique [] (y ∷ b) [] s pa pb er es e = cc
facts_unique [] (y ∷ b) (x ∷ r) s pa pb er es e =
    let same : x ≡ y = cc in let at = ap is_mark same in let no : true ≡ false = sym er ∙ at ∙ pb.0 in cc
facts_unique (x ∷ a) [] r [] pa pb er es e = cc
facts_unique (x ∷ a) [] r (y ∷ s) pa pb er es e =
    let same : y ≡ x = cc in let at = ap is_mark same in let no : true ≡ false = sym es ∙ at ∙ pa.0 in cc
facts_unique (x ∷ a) (y ∷ b) r s pa pb er es e =
    let head : x ≡ y = cc in
    let tail : a ++ r ≡ b ++ s = cc in
    let rest = facts_unique a b r s pa.1 pb.1 er es tail in
    let whole = rest.0 in
    let same : x ∷ a ≡ y ∷ b = cc in
    (same, rest.1)

-- a fact's text begins with no mark
pub fact_no_mark : (a rest t : List ℕ) (m : ℕ) → FactText a → is_mark m ≡ true → a ++ rest ≡ m ∷ t → ⊥
fact_no_mark [] rest t m f mark e = omega (arith, f.0)
fact_no_mark (x ∷ a) rest t m f mark e =
    let same : m ≡ x = cc in let no : true ≡ false = sym mark ∙ ap is_mark same ∙ f.1.0 in cc

-- no formula begins with a closing bracket or an `&`
pub begins_no_end : (p : Formula (List ℕ)) (rest t : List ℕ) (m : ℕ) → WellTexted p → is_mark m ≡ true → (33 ≡ m → ⊥) → (40 ≡ m → ⊥) → spelled p ++ rest ≡ m ∷ t → ⊥
begins_no_end (fact f) rest t m w mark no33 no40 e = fact_no_mark f rest t m w mark e
begins_no_end (neg p) rest t m w mark no33 no40 e = let same : 33 ≡ m = cc in no33 same
begins_no_end (all ps) rest t m w mark no33 no40 e = let same : 40 ≡ m = cc in no40 same

-- the text of what is in brackets, with what follows
pub bracket_text : (ps : Formulas (List ℕ)) (rest : List ℕ) → spelled (all ps) ++ rest ≡ 40 ∷ (spelled_all ps ++ 41 ∷ rest)
bracket_text ps rest = ap (λ l. 40 ∷ l) (append_assoc (spelled_all ps) (41 ∷ []) rest)

-- the text of a formula before others, with what follows
pub more-text : (p : Formula (List ℕ)) (ps : Formulas (List ℕ)) (rest : List ℕ) → (spelled p ++ spelled_on ps) ++ 41 ∷ rest ≡ spelled p ++ (spelled_on ps ++ 41 ∷ rest)
more-text p ps rest = append_assoc (spelled p) (spelled_on ps) (41 ∷ rest)

-- two texts that are one begin with one byte
pub heads : (x y : ℕ) (a b : List ℕ) → x ∷ a ≡ y ∷ b → x ≡ y
heads x y a b e = cc

mutual
  pub unique : (p q : Formula (List ℕ)) (r s : List ℕ) → WellTexted p → WellTexted q → Closes p r → Closes q s → spelled p ++ r ≡ spelled q ++ s → (p ≡ q) × (r ≡ s)
  unique (fact a) (fact b) r s wp wq cp cq e = let both = facts_unique a b r s wp.1 wq.1 cp cq e in (ap fact both.0, both.1)
  unique (fact a) (neg q) r s wp wq cp cq e = absurd (fact_no_mark a r (spelled q ++ s) 33 wp refl e)
  unique (fact a) (all qs) r s wp wq cp cq e = absurd (fact_no_mark a r (spelled_all qs ++ 41 ∷ s) 40 wp refl (e ∙ bracket_text qs s))
  unique (neg p) (fact b) r s wp wq cp cq e = absurd (fact_no_mark b s (spelled p ++ r) 33 wq refl (sym e))
  unique (neg p) (neg q) r s wp wq cp cq e = let both = unique p q r s wp wq cp cq (ap (drop 1) e) in (ap neg both.0, both.1)
  unique (neg p) (all qs) r s wp wq cp cq e = let no = heads 33 40 _ _ e in absurd (omega arith)
  unique (all ps) (fact b) r s wp wq cp cq e = absurd (fact_no_mark b s (spelled_all ps ++ 41 ∷ r) 40 wq refl (sym e ∙ bracket_text ps r))
  unique (all ps) (neg q) r s wp wq cp cq e = let no = heads 40 33 _ _ e in absurd (omega arith)
  unique (all ps) (all qs) r s wp wq cp cq e =
      let both = unique-all ps qs r s wp wq (ap (drop 1) (sym (bracket_text ps r) ∙ e ∙ bracket_text qs s)) in (ap all both.0, both.1)

  pub unique-all : (ps qs : Formulas (List ℕ)) (r s : List ℕ) → EachFactIn FactText ps → EachFactIn FactText qs → spelled_all ps ++ 41 ∷ r ≡ spelled_all qs ++ 41 ∷ s → (ps ≡ qs) × (r ≡ s)
  unique-all none none r s wp wq e = (refl, ap (drop 1) e)
  unique-all none (more q qs) r s wp wq e =
      absurd (begins_no_end q (spelled_on qs ++ 41 ∷ s) r 41 wq.0 refl (λ h. omega arith) (λ h. omega arith) (sym (more-text q qs s) ∙ sym e))
  unique-all (more p ps) none r s wp wq e =
      absurd (begins_no_end p (spelled_on ps ++ 41 ∷ r) s 41 wp.0 refl (λ h. omega arith) (λ h. omega arith) (sym (more-text p ps r) ∙ e))
  unique-all (more p ps) (more q qs) r s wp wq e =
      let first = unique p q (spelled_on ps ++ 41 ∷ r) (spelled_on qs ++ 41 ∷ s) wp.0 wq.0 (closes p _ (on-ends ps r)) (closes q _ (on-ends qs s)) (sym (more-text p ps r) ∙ e ∙ more-text q qs s) in
      let others = unique-on ps qs r s wp.1 wq.1 first.1 in
      let one = first.0 in
      let on = others.0 in
      let both : more p ps ≡ more q qs = cc in
      (both, others.1)

  pub unique-on : (ps qs : Formulas (List ℕ)) (r s : List ℕ) → EachFactIn FactText ps → EachFactIn FactText qs → spelled_on ps ++ 41 ∷ r ≡ spelled_on qs ++ 41 ∷ s → (ps ≡ qs) × (r ≡ s)
  unique-on none none r s wp wq e = (refl, ap (drop 1) e)
  unique-on none (more q qs) r s wp wq e = let no = heads 41 38 _ _ e in absurd (omega arith)
  unique-on (more p ps) none r s wp wq e = let no = heads 38 41 _ _ e in absurd (omega arith)
  unique-on (more p ps) (more q qs) r s wp wq e =
      let first = unique p q (spelled_on ps ++ 41 ∷ r) (spelled_on qs ++ 41 ∷ s) wp.0 wq.0 (closes p _ (on-ends ps r)) (closes q _ (on-ends qs s)) (sym (more-text p ps r) ∙ ap (drop 1) e ∙ more-text q qs s) in
      let others = unique-on ps qs r s wp.1 wq.1 first.1 in
      let one = first.0 in
      let on = others.0 in
      let both : more p ps ≡ more q qs = cc in
      (both, others.1)

-- two formulas with one text are one
pub spelling_fixes : (p q : Formula (List ℕ)) → WellTexted p → WellTexted q → spelled p ≡ spelled q → p ≡ q
spelling_fixes p q wp wq e = (unique p q [] [] wp wq (closes p [] tt) (closes q [] tt) (append-nil (spelled p) ∙ e ∙ sym (append-nil (spelled q)))).0
