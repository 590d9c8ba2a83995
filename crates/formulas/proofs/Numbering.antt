-- The numbers of a formula's facts, from those of its parts. Assumes nothing.
use Rattle.std.proofs.Common.{◌≡◌, ℕ, suc, Bool, true, false, ◌&&◌, List, [], ◌∷◌, ◌++◌, Bor, Vec, Some, Ok, Err, Result, sym, refl, ap, subst, ◌∙◌}
use Rattle.std.proofs.lemmas.Bool.{and_parts, and_from}
use Rattle.std.proofs.lemmas.List.{append_assoc, append-nil}
use Rattle.std.specs.List.{AllZip, FoldsTo, slice_get}
use Rattle.std.specs.declared.alloc.Global.{Global}
use Rattle.facts.specs.declared.names.NoFact.{NoFact}
use Rattle.facts.specs.declared.names.NoFact.TheVariants.{NotItsForm, NotListed}
use Rattle.formulas.specs.declared.resolve.Unresolved.{Unresolved}
use Rattle.formulas.specs.declared.resolve.Unresolved.TheVariants as unresolved
use Rattle.formulas.specs.declared.tree.Formula.{Formula as Tree}
use Rattle.formulas.specs.declared.tree.Formula.TheViews.{All}
use Rattle.formulas.specs.Formulas.{Formula, Formulas, fact, neg, all, none, more}
use Rattle.formulas.specs.Resolving.{each_passes, each_passes_in, renamed, renamed_in, is_listed, number_in, Numbered, Numbers}
use Rattle.facts.specs.Numbering.{has_form}
use Rattle.formulas.specs.Shapes.{texted, texted_all, numbers, numbers_all}
use Rattle.formulas.proofs.Trees.{shape_of_all}

form_of_listed : (r : Result ℕ NoFact) → is_listed r ≡ true → has_form r ≡ true
form_of_listed (Ok n) listed = refl
form_of_listed (Err NotItsForm) listed = cc
form_of_listed (Err NotListed) listed = refl

mutual
  -- listed facts have their form
  pub formed : (number : List ℕ → Result ℕ NoFact) (p : Formula (List ℕ)) → each_passes (λ f. is_listed (number f)) p ≡ true → each_passes (λ f. has_form (number f)) p ≡ true
  formed number (fact f) listed = form_of_listed (number f) listed
  formed number (neg p) listed = formed number p listed
  formed number (all ps) listed = formed-in number ps listed

  formed-in : (number : List ℕ → Result ℕ NoFact) (ps : Formulas (List ℕ)) → each_passes_in (λ f. is_listed (number f)) ps ≡ true → each_passes_in (λ f. has_form (number f)) ps ≡ true
  formed-in number none listed = refl
  formed-in number (more p ps) listed = let each = and_parts _ _ listed in and_from _ _ (formed number p each.0) (formed-in number ps each.1)

module _ (number : List ℕ → Result ℕ NoFact) where
  -- some trees with the numbers of their facts
  pub record AllNumbered (ts : List (Tree (Bor (List ℕ)))) (ns : List (Tree ℕ)) : Type 0 where
    pub listed : each_passes_in (λ f. is_listed (number f)) (texted_all ts) ≡ true
    pub numbered : numbers_all ns ≡ renamed_in (λ f. number_in (number f)) (texted_all ts)

  -- a step of collecting adds the numbers of one tree
  abbrev pub AddsOne : (Vec (Tree ℕ) Global → Result (Tree ℕ) Unresolved → Vec (Tree ℕ) Global → Type 0) → Type 0
  AddsOne Step = (v : Vec (Tree ℕ) Global) (r : Result (Tree ℕ) Unresolved) (w : Vec (Tree ℕ) Global) → Step v r w → (n : Tree ℕ) × (Ok n ≡ r) × (w.items ≡ v.items ++ (n ∷ []))

  pub collected : (Step : Vec (Tree ℕ) Global → Result (Tree ℕ) Unresolved → Vec (Tree ℕ) Global → Type 0) (ts : List (Tree (Bor (List ℕ)))) (rs : List (Result (Tree ℕ) Unresolved)) (v w : Vec (Tree ℕ) Global)
      → AllZip (λ t r. Numbers number (texted t) r) ts rs → FoldsTo Step v rs w → AddsOne Step → (ns : List (Tree ℕ)) × (w.items ≡ v.items ++ ns) × AllNumbered ts ns
  collected Step [] [] v w each steps adds = ([], ap (λ (k : Vec (Tree ℕ) Global). k.items) (sym steps) ∙ sym (append-nil v.items), record { listed = refl; numbered = refl })
  collected Step (t ∷ ts) (r ∷ rs) v w each steps adds =
      let added = adds v r steps.0 steps.1 in
      let one : Numbered number (texted t) (numbers added.0) = subst (λ s. Numbers number (texted t) s) (sym added.1) each.0 in
      let on = collected Step ts rs steps.0 w each.1 steps.2 adds in (
        added.0 ∷ on.0,
        on.1 ∙ ap (λ l. l ++ on.0) added.2 ∙ append_assoc v.items (added.0 ∷ []) on.0,
        record { listed = and_from _ _ one.0 on.2.listed; numbered = ap (λ p. more p (numbers_all on.0)) one.1 ∙ ap (more (renamed (λ f. number_in (number f)) (texted t))) on.2.numbered },
      )
  collected Step [] (r ∷ rs) v w each steps adds = absurd each
  collected Step (t ∷ ts) [] v w each steps adds = absurd each

  and_false : (b : Bool) → b && false ≡ false
  and_false true = refl
  and_false false = refl

  -- a fault in one of some trees is a fault in the row of them
  failed : (test : List ℕ → Bool) (e : Unresolved) → ((t : Tree (Bor (List ℕ))) → Numbers number (texted t) (Err e) → each_passes test (texted t) ≡ false)
      → (ts rest : List (Tree (Bor (List ℕ)))) (rs : List (Result (Tree ℕ) Unresolved)) (k : ℕ) → AllZip (λ t r. Numbers number (texted t) r) ts rs → slice_get rs k ≡ Some (Err e)
      → each_passes_in test (texted_all (ts ++ rest)) ≡ false
  failed test e says [] rest [] k each at = cc
  failed test e says (t ∷ ts) rest (r ∷ rs) Prim.Native.Nat.zero each at =
      let is : r ≡ Err e = cc in
      ap (λ b. b && each_passes_in test (texted_all (ts ++ rest))) (says t (subst (λ s. Numbers number (texted t) s) is each.0))
  failed test e says (t ∷ ts) rest (r ∷ rs) (suc k) each at = ap (λ b. each_passes test (texted t) && b) (failed test e says ts rest rs k each.1 at) ∙ and_false (each_passes test (texted t))
  failed test e says [] rest (r ∷ rs) k each at = absurd each
  failed test e says (t ∷ ts) rest [] k each at = absurd each

  -- a fault in one of the trees inside is a fault in the tree of them all
  pub all_fault : (p : Tree (Bor (List ℕ))) (ts : Vec (Tree (Bor (List ℕ))) Global) → p ≡ All ts → (e : Unresolved) (front rest : List (Tree (Bor (List ℕ)))) (rs : List (Result (Tree ℕ) Unresolved)) (k : ℕ)
      → ts.items ≡ front ++ rest → AllZip (λ t r. Numbers number (texted t) r) front rs → slice_get rs k ≡ Some (Err e) → Numbers number (texted p) (Err e)
  all_fault p ts is e front rest rs k parts each at = by_fault e at
    where
      whole : texted p ≡ all (texted_all (front ++ rest))
      whole = ap texted is ∙ shape_of_all (λ l. l.now) ts ∙ ap (λ l. all (texted_all l)) parts

      by_fault : (e : Unresolved) → slice_get rs k ≡ Some (Err e) → Numbers number (texted p) (Err e)
      by_fault (unresolved.NoFact NotItsForm) at = ap (each_passes (λ f. has_form (number f))) whole ∙ failed (λ f. has_form (number f)) _ (λ t says. says) front rest rs k each at
      by_fault (unresolved.NoFact NotListed) at = ap (each_passes (λ f. is_listed (number f))) whole ∙ failed (λ f. is_listed (number f)) _ (λ t says. says) front rest rs k each at
      by_fault unresolved.NoMemory at = tt

  pub all_numbered : (p : Tree (Bor (List ℕ))) (ts : Vec (Tree (Bor (List ℕ))) Global) (ns : Vec (Tree ℕ) Global) → p ≡ All ts → AllNumbered ts.items ns.items → Numbered number (texted p) (numbers (All ns))
  all_numbered p ts ns is each =
      let whole = ap texted is ∙ shape_of_all (λ l. l.now) ts in (
        ap (each_passes (λ f. is_listed (number f))) whole ∙ each.listed,
        shape_of_all (λ n. n) ns ∙ ap all each.numbered ∙ ap (renamed (λ f. number_in (number f))) (sym whole),
      )
