-- A depot that is read has a goal. Assumes nothing.
use Rattle.std.proofs.Common.{◌≡◌, ℕ, Bool, true, false, List, [], ◌∷◌, Some, is_none, refl, sym, subst, ◌∙◌, rules}
use Rattle.std.proofs.lemmas.Bool.{both_ways}
use Rattle.std.proofs.lemmas.Option.{same_Some}
use Rattle.sheets.specs.Faults.{SheetFault}
use Rattle.sheets.specs.Layout.{last_letter}
use Rattle.sheets.specs.Lines.{Line, lines_of}
use Rattle.sheets.specs.declared.letters.Letter.TheVariants.{Goal}
use Rattle.sheets.specs.declared.refusals.Refusal.TheVariants.{NoGoal}
use Rattle.depots.specs.Kinds.{Meaning}
use Rattle.depots.specs.Spelling.{Adds, DepotRead, SpelledFrom, fields_on}
use Rattle.depots.specs.Tables.{Tables}

refuted : (b : Bool) → (b ≡ true → ⊥) → b ≡ false
refuted true fails = absurd (fails refl)
refuted false fails = refl

module _ {F : Type 0} (m : Meaning F) where
  spelled_goal : (t u : Tables F) (ls : List Line) → SpelledFrom m t ls u → last_letter ls ≡ Some Goal → is_none u.goal ≡ false
  spelled_goal t u [] spelled last = absurd (search (rules, last))
  spelled_goal t u (l ∷ []) spelled last =
      let adds = subst (λ k. Adds m t k (fields_on l) spelled.1) (same_Some spelled.0 Goal (sym spelled.2 ∙ last)) spelled.3 in
      rw (spelled.4, adds.2) refl
  spelled_goal t u (l ∷ n ∷ ls) spelled last = spelled_goal spelled.1 u (n ∷ ls) spelled.4 last

  pub read_goal : (s : List ℕ) (t : Tables F) → DepotRead m s t → is_none t.goal ≡ false
  read_goal s t read = refuted (is_none t.goal) (λ none. read.faultless _ NoGoal (SheetFault.end (refl, λ last. both_ways (is_none t.goal) (spelled_goal _ t (lines_of s) read.spelled last) none)))
