-- Lines of one field, by what their tables took. Assumes nothing.
use Rattle.std.proofs.Common.{◌≡◌, ℕ, ◌≤◌, Bool, true, false, cond, leb, List, [], ◌∷◌, ◌++◌, length, is_some, Some, Ok, Err, Option, Result, sym, refl, ap, ◌∙◌, subst, inr, arith}
use Rattle.std.specs.Result.{result_err}
use Rattle.std.specs.Str.{bytes_eq}
use Rattle.std.proofs.lemmas.List.{length_push}
use Rattle.std.proofs.lemmas.Bool.{false≢true, le-leb, leb-false, leb-true}
use Rattle.sheets.specs.declared.letters.Letter.TheVariants as letter
use Rattle.sheets.specs.declared.refusals.Refusal.{Refusal}
use Rattle.sheets.specs.declared.refusals.Refusal.TheVariants.{TableFull}
use Rattle.sheets.specs.Faults.{Lowest}
use Rattle.sheets.specs.Listed.{first_from}
use Rattle.depots.specs.declared.troubles.Trouble.{Trouble}
use Rattle.depots.specs.declared.troubles.Trouble.TheVariants.{NotItsForm, Twice, AlwaysTrue}
use Rattle.facts.specs.declared.names.NoFact.{NoFact}
use Rattle.depots.specs.Entries.{Taken}
use Rattle.depots.specs.Fields.{among, new_fact, new_name, new_start}
use Rattle.depots.specs.Kinds.{Meaning}
use Rattle.depots.specs.Spelling.{LineTaken}
use Rattle.depots.specs.Tables.{Tables, listing, with_facts, with_matters, with_started, with_zones}
use Rattle.depots.specs.Troubles.{LineFault}
use Rattle.depots.specs.Wrong.{Fields, number_among}
use Rattle.depots.specs.Wrong.Sort.{word}
use Rattle.depots.proofs.Returned.{ok_err}
use Rattle.depots.proofs.Told.{Found, found_nothing, line_taken, one-field}

over : (most n k : ℕ) → n ≡ k → leb most n ≡ true → most ≤ k
over most n k same is = subst (λ j. most ≤ j) same (leb-true most n is)

is-over : (most n k : ℕ) → n ≡ k → most ≤ k → leb most n ≡ true
is-over most n k same le = le-leb most n (subst (λ j. most ≤ j) (sym same) le)

-- what was read of a fact that is listed anew, and of one that is started
read-new : {F : Type 0} (same : F → F → Bool) (certain : F → Bool) (read : Result F NoFact) (facts : List F) (f : F) → new_fact same certain read facts ≡ Ok f → read ≡ Ok f
read-new {F = F} same certain (Ok g) facts f is = by_test (is_some (first_from (same g) 1 facts)) (certain g) is
  where
    by_test : (a b : Bool) → ◌≡◌ {A = Result F Trouble} (cond a (Err Twice) (cond b (Err AlwaysTrue) (Ok g))) (Ok f) → ◌≡◌ {A = Result F NoFact} (Ok g) (Ok f)
    by_test true b e = absurd (ok_err (sym e))
    by_test false true e = absurd (ok_err (sym e))
    by_test false false e = let same : g ≡ f = cc in ap Ok same
read-new same certain (Err why) facts f is = absurd (ok_err (sym is))

read-start : (read : Result ℕ NoFact) (started : List ℕ) (n : ℕ) → new_start read started ≡ Ok n → read ≡ Ok n
read-start (Ok k) started n is = by_test (among k started) is
  where
    by_test : (a : Bool) → ◌≡◌ {A = Result ℕ Trouble} (cond a (Err Twice) (Ok k)) (Ok n) → ◌≡◌ {A = Result ℕ NoFact} (Ok k) (Ok n)
    by_test true e = absurd (ok_err (sym e))
    by_test false e = let same : k ≡ n = cc in ap Ok same
read-start (Err why) started n is = absurd (ok_err (sym is))

module _ {F : Type 0} (m : Meaning F) (t : Tables F) (f : Fields) (r : Result Unit Refusal) (Kept : Type 0) where
  pub zone_line : (new : List (List ℕ)) (n : ℕ) → n ≡ length t.zones → Taken (new_name t.zones f.second ∷ []) (leb 12 n) (new ≡ t.zones ++ f.second ∷ []) Kept r → LineTaken m t letter.Zone f r (with_zones t new)
  zone_line new n count =
      line_taken m t letter.Zone f (new_name t.zones f.second ∷ []) (one-field m t letter.Zone f (new_name t.zones f.second) (λ a. (λ e. e, λ e. e)) (found_nothing m t f.third) (found_nothing m t f.fourth)) (with_zones t new) (leb 12 n) _ Kept
      (over 12 n _ count) (is-over 12 n _ count) (ap (with_zones t)) r

  pub matter_line : (new : List (List ℕ)) (n : ℕ) → n ≡ length t.matters → Taken (new_name t.matters f.second ∷ []) (leb 64 n) (new ≡ t.matters ++ f.second ∷ []) Kept r → LineTaken m t letter.Matter f r (with_matters t new)
  matter_line new n count =
      line_taken m t letter.Matter f (new_name t.matters f.second ∷ []) (one-field m t letter.Matter f (new_name t.matters f.second) (λ a. (λ e. e, λ e. e)) (found_nothing m t f.third) (found_nothing m t f.fourth)) (with_matters t new) (leb 64 n) _ Kept
      (over 64 n _ count) (is-over 64 n _ count) (ap (with_matters t)) r

  pub fact_line : (new : List F) (texts : List (List ℕ)) (n : ℕ) → n ≡ length t.facts → Taken (result_err (new_fact m.alike m.certain (m.reading (listing t) f.second) t.facts) ∷ []) (leb 128 n) ((fact : F) × (new_fact m.alike m.certain (m.reading (listing t) f.second) t.facts ≡ Ok fact) × (new ≡ t.facts ++ fact ∷ []) × (texts ≡ t.texts ++ f.second ∷ [])) Kept r → LineTaken m t letter.Fact f r (with_facts t new texts)
  fact_line new texts n count =
      line_taken m t letter.Fact f (result_err (new_fact m.alike m.certain (m.reading (listing t) f.second) t.facts) ∷ []) (one-field m t letter.Fact f (result_err (new_fact m.alike m.certain (m.reading (listing t) f.second) t.facts)) (λ a. (λ e. e, λ e. e)) (found_nothing m t f.third) (found_nothing m t f.fourth)) (with_facts t new texts) (leb 128 n) _ Kept
      (over 128 n _ count) (is-over 128 n _ count)
      (λ e. (e.0, read-new m.alike m.certain (m.reading (listing t) f.second) t.facts e.0 e.1, ap (λ x. with_facts t x texts) e.2 ∙ ap (with_facts t (t.facts ++ e.0 ∷ [])) e.3)) r

  pub start_line : (new : List ℕ) (number : Result ℕ NoFact) → number ≡ number_among m t f.second → Taken (result_err (new_start number t.started) ∷ []) false ((n : ℕ) × (new_start number t.started ≡ Ok n) × (new ≡ t.started ++ n ∷ [])) Kept r → LineTaken m t letter.Start f r (with_started t new)
  start_line new number same =
      line_taken m t letter.Start f (result_err (new_start number t.started) ∷ [])
      (one-field m t letter.Start f (result_err (new_start number t.started)) (λ a. (λ e. ap (λ x. result_err (new_start x t.started)) same ∙ e, λ e. ap (λ x. result_err (new_start x t.started)) (sym same) ∙ e)) (found_nothing m t f.third) (found_nothing m t f.fourth)) (with_started t new) false _ Kept
      (λ e. false≢true e) (λ e. absurd e)
      (λ e. (e.0, sym same ∙ read-start number t.started e.0 e.1, ap (with_started t) e.2)) r

-- a table of facts that took a line has no more than it may
module _ {F : Type 0} (m : Meaning F) (t : Tables F) (f : Fields) (new : List F) (texts : List (List ℕ)) (n : ℕ) (count : n ≡ length t.facts) (few : n ≤ 128) (Kept : Type 0) where
  pub few-facts : (r : Result Unit Refusal) → Taken (result_err (new_fact m.alike m.certain (m.reading (listing t) f.second) t.facts) ∷ []) (leb 128 n) ((fact : F) × (new_fact m.alike m.certain (m.reading (listing t) f.second) t.facts ≡ Ok fact) × (new ≡ t.facts ++ fact ∷ []) × (texts ≡ t.texts ++ f.second ∷ [])) ((new ≡ t.facts) × Kept) r → length new ≤ 128
  few-facts (Ok _) taken =
      omega (arith, ap length taken.1.2, length_push t.facts taken.1.0, leb-false 128 n (not_full (leb 128 n) (λ is. taken.0 TableFull (inr (refl, is)))))
    where
      not_full : (b : Bool) → (b ≡ true → ⊥) → b ≡ false
      not_full true never = absurd (never refl)
      not_full false never = refl
  few-facts (Err w) taken = omega (arith, ap length taken.1.0)

-- the kind's word
module _ {F : Type 0} (m : Meaning F) (t : Tables F) (f : Fields) where
  found_word : (o : Option Trouble) → ((a : Trouble) → (a ≡ NotItsForm) × (bytes_eq f.second m.wording ≡ false) → o ≡ Some a) → ((a : Trouble) → o ≡ Some a → (a ≡ NotItsForm) × (bytes_eq f.second m.wording ≡ false)) → Found m t word f.second o
  found_word o there back a = (there a, back a)

  pub other_word : bytes_eq f.second m.wording ≡ false → (w : Refusal) → ((full : Bool) → Lowest (LineFault (Some NotItsForm ∷ []) full) w) → LineTaken m t letter.Kind f (Err w) t
  other_word other w low =
      line_taken m t letter.Kind f (Some NotItsForm ∷ []) (one-field m t letter.Kind f (Some NotItsForm) (found_word (Some NotItsForm) (λ a e. ap Some (sym e.0)) (λ a e. (inner a e, other))) (found_nothing m t f.third) (found_nothing m t f.fourth)) t false Unit Unit
      (λ e. false≢true e) (λ e. absurd e) (λ _. refl) (Err w) (inr (low false), tt)
    where
      inner : (a : Trouble) → Some NotItsForm ≡ Some a → a ≡ NotItsForm
      inner a e = cc
