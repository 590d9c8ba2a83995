-- A line judged by its layout and then by its fields, and that lines spell one depot at the most. Assumes nothing.
use Rattle.std.proofs.Common.{◌≡◌, ℕ, zero, suc, ◌+◌, ◌<◌, ◌⊎◌, List, [], ◌∷◌, ◌++◌, length, get_or, Some, None, Ok, Option, Result, sym, refl, ap, ◌∙◌, subst, inl, inr, arith}
use Rattle.std.specs.List.{slice_get}
use Rattle.std.specs.Option.{option_map, unwrap_or}
use denote.Ref.{Bor}
use Rattle.sheets.specs.declared.layout.Above.{Above}
use Rattle.sheets.specs.declared.letters.Letter.{Letter}
use Rattle.sheets.specs.declared.letters.Letter.TheVariants as letter
use Rattle.sheets.specs.declared.refusals.Refusal.{Refusal}
use Rattle.sheets.specs.declared.refusals.Refusal.TheVariants.{NoMemory, OverLimit}
use Rattle.sheets.specs.Faults.{Lowest, NoLater}
use Rattle.sheets.specs.Layout.{LayoutFault, Unfinished, letter_on}
use Rattle.sheets.specs.Lines.{Line}
use Rattle.sheets.specs.Refusals.{number_of, rank_of}
use Rattle.sheets.proofs.LaidOut.{layout_first}
use Rattle.std.proofs.lemmas.Option.{none-some, same_Some}
use Rattle.sheets.proofs.Sheetwise.{Late}
use Rattle.formulas.specs.Resolving.{number_in, renamed}
use Rattle.formulas.specs.Spelling.{size_of}
use Rattle.depots.specs.declared.troubles.Trouble.{Trouble}
use Rattle.depots.specs.declared.troubles.Trouble.TheVariants as trouble
use Rattle.depots.specs.Kinds.{Meaning}
use Rattle.depots.specs.Spelling.{Adds, AddsFormula, SpelledFrom, Wrong, WrongUnder, fields_on}
use Rattle.depots.specs.Tables.{Tables, with_effects, with_facts, with_formulas, with_goal, with_moves, with_started}
use Rattle.depots.specs.Troubles.{refusal_of}
use Rattle.depots.specs.Wrong.{Fields, LineWrong, number_among}
use Rattle.depots.proofs.Formulaic.{spells_one}

-- an element of a list or something else
field_here : (fs : List (List ℕ)) (i : ℕ) (x : List ℕ) → Some x ≡ slice_get fs i → x ≡ get_or fs i []
field_here [] i x is = absurd (none-some _ (sym is))
field_here (f ∷ fs) zero x is = same_Some x f is
field_here (f ∷ fs) (suc i) x is = field_here fs i x is

field_missing : (fs : List (List ℕ)) (i : ℕ) → None ≡ slice_get fs i → [] ≡ get_or fs i []
field_missing [] i is = refl
field_missing (f ∷ fs) zero is = absurd (none-some _ is)
field_missing (f ∷ fs) (suc i) is = field_missing fs i is

pub field_there : (fs : List (List ℕ)) (i : ℕ) (o : Option (Bor (List ℕ))) (d : Bor (List ℕ)) → d.now ≡ [] → option_map (λ x. x.now) o ≡ slice_get fs i → (unwrap_or o d).now ≡ get_or fs i []
field_there fs i None d none is = none ∙ field_missing fs i is
field_there fs i (Some x) d none is = field_here fs i x.now is

-- what is wrong with fields has a number from 5 to 9
field_number : (a : Trouble) (field : ℕ) (w : Refusal) → refusal_of (Some a) field ≡ Some w → (4 < number_of w) × (number_of w < 10)
field_number trouble.NotItsForm field w is = subst (λ u. (4 < number_of u) × (number_of u < 10)) (same_Some _ _ is) (omega arith, omega arith)
field_number trouble.NotListed field w is = subst (λ u. (4 < number_of u) × (number_of u < 10)) (same_Some _ _ is) (omega arith, omega arith)
field_number trouble.Twice field w is = subst (λ u. (4 < number_of u) × (number_of u < 10)) (same_Some _ _ is) (omega arith, omega arith)
field_number trouble.AlwaysTrue field w is = subst (λ u. (4 < number_of u) × (number_of u < 10)) (same_Some _ _ is) (omega arith, omega arith)

module _ {F : Type 0} (m : Meaning F) where
  line-number : (t : Tables F) (k : Letter) (f : Fields) (w : Refusal) → LineWrong m t k f w → (4 < number_of w) × (number_of w < 10)
  line-number t k f w (inl (inl e)) = field_number e.0 2 w e.2
  line-number t k f w (inl (inr (inl e))) = field_number e.0 3 w e.2
  line-number t k f w (inl (inr (inr e))) = field_number e.0 4 w e.2
  line-number t k f w (inr e) = subst (λ u. (4 < number_of u) × (number_of u < 10)) (sym e.0) (omega arith, omega arith)

  -- what is wrong with a line is told before the want of a goal
  pub late : Late (Wrong m) Unfinished
  late = record {
    size = λ ls v f. subst (λ u. NoLater (rank_of OverLimit) (rank_of u)) (sym f.0) (inl (omega arith));
    lines = λ above l w g ls v f. subst (λ u. NoLater (rank_of w) (rank_of u)) (sym f.0) (inl (before above l w g));
  }
    where
      before : (above : List Line) (l : Line) (w : Refusal) → Wrong m above l w → number_of w < 10
      before above l w (inl f) = omega (arith, layout_first _ l w f)
      before above l w (inr f) = (line-number f.0 f.2.0 (fields_on l) w f.2.2).1

  module _ (t : Tables F) (a : Above) (l : Line) where
    pub layout_told : (w : Refusal) → Lowest (LayoutFault a l) w → Lowest (WrongUnder m t a l) w
    layout_told w low = record { holds = inl low.holds; first = by_fault }
      where
        by_fault : (v : Refusal) → WrongUnder m t a l v → NoLater (rank_of w) (rank_of v)
        by_fault v (inl f) = low.first v f
        by_fault v (inr f) = inl (omega (arith, layout_first a l w low.holds, (line-number t f.0 (fields_on l) v f.2).0))

    module _ (k : Letter) (here : letter_on l ≡ Some k) (laid_out : (w : Refusal) → LayoutFault a l w → ⊥) where
      only-fields : (w : Refusal) → WrongUnder m t a l w → LineWrong m t k (fields_on l) w
      only-fields w (inl f) = absurd (laid_out w f)
      only-fields w (inr f) = subst (λ j. LineWrong m t j (fields_on l) w) (same_Some f.0 k (sym f.1 ∙ here)) f.2

      fields_told : (w : Refusal) → Lowest (LineWrong m t k (fields_on l)) w → Lowest (WrongUnder m t a l) w
      fields_told w low = record { holds = inr (k, here, low.holds); first = λ v f. low.first v (only-fields v f) }

      module _ (f : Fields) (same : f ≡ fields_on l) where
        pub line_refused : (w : Refusal) → (w ≡ NoMemory) ⊎ Lowest (LineWrong m t k f) w → (w ≡ NoMemory) ⊎ Lowest (WrongUnder m t a l) w
        line_refused w (inl e) = inl e
        line_refused w (inr low) = inr (fields_told w (subst (λ x. Lowest (LineWrong m t k x) w) same low))

        pub line-added : (u : Tables F) → ((w : Refusal) → LineWrong m t k f w → ⊥) × Adds m t k f u → (letter_on l ≡ Some k) × ((w : Refusal) → WrongUnder m t a l w → ⊥) × Adds m t k (fields_on l) u
        line-added u taken = (here, λ w e. taken.0 w (subst (λ x. LineWrong m t k x w) (sym same) (only-fields w e)), subst (λ x. Adds m t k x u) same taken.1)

  -- a line adds one entry
  formula_one : (t : Tables F) (text : List ℕ) (u v : Tables F) → AddsFormula m t text u → AddsFormula m t text v → u ≡ v
  formula_one t text u v a b =
      let same : a.spelled ≡ b.spelled = spells_one 8 8 text a.spelled b.spelled a.spells b.spells in
      let listed : a.listed ≡ b.listed = a.numbered.1 ∙ ap (renamed (λ f. number_in (number_among m t f))) same ∙ sym b.numbered.1 in
      a.adds ∙ ap (λ p. with_formulas t (t.formulas ++ p ∷ []) _) listed ∙ ap (λ p. with_formulas t (t.formulas ++ b.listed ∷ []) (t.size + size_of p)) same ∙ sym b.adds

  inner : {X E : Type 0} (r : Result X E) (x y : X) → r ≡ Ok x → r ≡ Ok y → x ≡ y
  inner r x y p q = cc

  adds_one : (t : Tables F) (k : Letter) (f : Fields) (u v : Tables F) → Adds m t k f u → Adds m t k f v → u ≡ v
  adds_one t letter.Kind f u v a b = a ∙ sym b
  adds_one t letter.Zone f u v a b = a ∙ sym b
  adds_one t letter.Matter f u v a b = a ∙ sym b
  adds_one t letter.Fact f u v a b = a.2 ∙ ap (λ x. with_facts t (t.facts ++ x ∷ []) (t.texts ++ f.second ∷ [])) (inner _ a.0 b.0 a.1 b.1) ∙ sym b.2
  adds_one t letter.Start f u v a b = a.2 ∙ ap (λ n. with_started t (t.started ++ n ∷ [])) (inner _ a.0 b.0 a.1 b.1) ∙ sym b.2
  adds_one t letter.Move f u v a b = a.2 ∙ ap (λ x. with_moves x (x.names ++ f.second ∷ []) (x.moves ++ record { need = length x.formulas; effects_before = length x.effects } ∷ [])) (formula_one t f.third a.0 b.0 a.1 b.1) ∙ sym b.2
  adds_one t letter.Effect f u v a b =
      a.2.4
      ∙ ap (λ x. with_effects x (x.effects ++ record { condition = length x.formulas; settings = a.2.0; strikes = a.2.1 } ∷ [])) (formula_one t f.second a.0 b.0 a.1 b.1)
      ∙ ap (λ l. with_effects b.0 (b.0.effects ++ record { condition = length b.0.formulas; settings = l; strikes = a.2.1 } ∷ [])) (inner _ a.2.0 b.2.0 a.2.2 b.2.2)
      ∙ ap (λ l. with_effects b.0 (b.0.effects ++ record { condition = length b.0.formulas; settings = b.2.0; strikes = l } ∷ [])) (inner _ a.2.1 b.2.1 a.2.3 b.2.3)
      ∙ sym b.2.4
  adds_one t letter.Goal f u v a b = a.2 ∙ ap (λ x. with_goal x (length x.formulas)) (formula_one t f.second a.0 b.0 a.1 b.1) ∙ sym b.2

  -- lines spell one depot at the most
  pub spelled-one : (t : Tables F) (ls : List Line) (u v : Tables F) → SpelledFrom m t ls u → SpelledFrom m t ls v → u ≡ v
  spelled-one t [] u v a b = a ∙ sym b
  spelled-one t (l ∷ ls) u v a b = spelled-one b.1 ls u v (subst (λ x. SpelledFrom m x ls u) same a.4) b.4
    where
      letters : a.0 ≡ b.0
      letters = same_Some a.0 b.0 (sym a.2 ∙ b.2)

      same : a.1 ≡ b.1
      same = adds_one t b.0 (fields_on l) a.1 b.1 (subst (λ k. Adds m t k (fields_on l) a.1) letters a.3) b.3

  -- one line more
  pub spelled-push : (t : Tables F) (ls : List Line) (u : Tables F) (l : Line) (k : Letter) (v : Tables F) → SpelledFrom m t ls u → letter_on l ≡ Some k → Adds m u k (fields_on l) v → SpelledFrom m t (ls ++ l ∷ []) v
  spelled-push t [] u l k v a here adds = (k, v, here, subst (λ x. Adds m x k (fields_on l) v) a adds, refl)
  spelled-push t (x ∷ ls) u l k v a here adds = (a.0, a.1, a.2, a.3, spelled-push a.1 ls u l k v a.4 here adds)
