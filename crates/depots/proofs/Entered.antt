-- What is read of the lines with formulas, by what was found of their fields. Assumes nothing.
use Rattle.std.proofs.Common.{◌≡◌, ℕ, zero, suc, false, ◌+◌, ◌<◌, ◌≤◌, ◌⊎◌, List, [], ◌∷◌, ◌++◌, length, Some, None, Ok, Err, MatchResult, Option, Result, sym, ap, ◌∙◌, subst, inl, inr, arith}
use Rattle.std.proofs.lemmas.Bool.{false≢true}
use Rattle.std.proofs.lemmas.Option.{none-some}
use Rattle.std.specs.Result.{result_err}
use Rattle.sheets.specs.declared.letters.Letter.TheVariants as letter
use Rattle.sheets.specs.declared.refusals.Refusal.{Refusal}
use Rattle.sheets.specs.declared.refusals.Refusal.TheVariants.{TableFull}
use Rattle.sheets.specs.Faults.{Lowest}
use Rattle.formulas.specs.Shapes.{numbers}
use Rattle.formulas.specs.Spelling.{size_of}
use Rattle.depots.specs.declared.fact_list.FactList.{FactList}
use Rattle.depots.specs.declared.formula_field.NewFormula.{NewFormula}
use Rattle.depots.specs.declared.formula_field.SizedFormula.{SizedFormula}
use Rattle.depots.specs.declared.troubles.Trouble.{Trouble}
use Rattle.depots.specs.MoveLines.{EffectsFull}
use Rattle.depots.specs.Fields.{new_name}
use Rattle.depots.specs.FormulaFields.{AddedTo, FormulaRead, with_formula}
use Rattle.depots.specs.Kinds.{Meaning}
use Rattle.depots.specs.Settings.{Comes, list_reading, numbers_of}
use Rattle.depots.specs.Spelling.{AddsFormula, LineRead}
use Rattle.depots.specs.Tables.{Tables, with_formulas}
use Rattle.depots.specs.Troubles.{FieldFault, LineFault}
use Rattle.depots.specs.Wrong.{Fields, LineWrong, Overfull, TooLarge, most_moves, most_size, number_among}
use Rattle.depots.specs.Wrong.Sort.{fact_list, new_name as name_of}
use Rattle.depots.proofs.Formulaic.{formula_found, spells_one}
use Rattle.depots.proofs.Told.{Faults, Found, field_told, found_nothing, full-told, none_told, one-field, three-fields, two-fields}

-- what was found is what a definition says
same-trouble : (o p : Option Trouble) → o ≡ p → (a : Trouble) → (p ≡ Some a → o ≡ Some a) × (o ≡ Some a → p ≡ Some a)
same-trouble o p same a = (λ e. same ∙ e, λ e. sym same ∙ e)

-- a list of facts that was read, or what is wrong with it
list_trouble : (read : Result (List ℕ) Trouble) (r : Result FactList Trouble) → Comes read r → result_err r ≡ result_err read
list_trouble read (Ok l) is = ap result_err (sym is)
list_trouble read (Err a) is = ap result_err (sym is)

-- fields with no trouble make no refusal
abbrev nones : ℕ → List (Option Trouble)
nones zero = []
nones (suc n) = None ∷ nones n

no_fault : (n field : ℕ) (w : Refusal) → FieldFault field (nones n) w → ⊥
no_fault zero field w e = e
no_fault (suc n) field w (inl e) = none-some _ e
no_fault (suc n) field w (inr e) = no_fault n (field + 1) w e

-- a formula that was read takes the formulas over their limit, or is added to them
module _ {F : Type 0} (m : Meaning F) (t : Tables F) (text : List ℕ) (read : SizedFormula) (got : FormulaRead (number_among m t) text (Ok read)) where
  too_large : most_size < t.size + read.size → TooLarge m t text
  too_large over = (got.0, got.1, omega (arith, got.3))

  module _ (new : NewFormula) (fits : AddedTo t.size read new) where
    not_large : TooLarge m t text → ⊥
    not_large large = let same : size_of large.0 ≡ size_of got.0 = ap size_of (spells_one 8 8 text large.0 got.0 large.1 got.1) in omega (arith, large.2, fits.2, got.3)

    pub adds-formula : AddsFormula m t text (with_formula t new)
    adds-formula = record {
      spelled = got.0;
      spells = got.1;
      listed = numbers read.formula;
      numbered = got.2;
      adds = ap (λ p. with_formulas t (t.formulas ++ numbers p ∷ []) new.total) fits.0 ∙ ap (with_formulas t (t.formulas ++ numbers read.formula ∷ [])) (fits.1 ∙ ap (λ n. t.size + n) got.3);
    }

-- what was read is added to the formulas, or too large
abbrev pub Added : {F : Type 0} → Tables F → SizedFormula → Result NewFormula Refusal → Type 0
Added t read r = MatchResult r (AddedTo t.size read) (λ w. (w ≡ TableFull) × (most_size < t.size + read.size))

-- a move: what is told of its name and need, of a full table, and that it is read
module _ {F : Type 0} (m : Meaning F) (t : Tables F) (f : Fields) (named : Result Unit Trouble) (is_new : result_err named ≡ new_name t.names f.second) where
  pub move_told : (x : Result SizedFormula Trouble) → FormulaRead (number_among m t) f.third x → (w : Refusal) → Lowest (FieldFault 2 (result_err named ∷ result_err x ∷ [])) w → Lowest (LineWrong m t letter.Move f) w
  move_told x read =
      field_told m t letter.Move f (result_err named ∷ result_err x ∷ [])
      (two-fields m t letter.Move f (result_err named) (result_err x) (same-trouble (result_err named) (new_name t.names f.second) is_new) (formula_found (number_among m t) f.third x read) (found_nothing m t f.fourth))

module _ {F : Type 0} (m : Meaning F) (t : Tables F) (f : Fields) (named : Result Unit Trouble) (is_new : result_err named ≡ new_name t.names f.second) (fine : named ≡ Ok tt) (read : SizedFormula) (got : FormulaRead (number_among m t) f.third (Ok read)) where
  by_name : Found m t (name_of t.names) f.second None
  by_name = same-trouble None (new_name t.names f.second) (ap result_err (sym fine) ∙ is_new)

  no_move_trouble : Faults m t letter.Move f (None ∷ None ∷ [])
  no_move_trouble = two-fields m t letter.Move f None None by_name (formula_found (number_among m t) f.third (Ok read) got) (found_nothing m t f.fourth)

  pub move_full : (most_moves ≤ length t.moves) ⊎ (most_size < t.size + read.size) → Lowest (LineWrong m t letter.Move f) TableFull
  move_full (inl many) = full-told m t letter.Move f (None ∷ None ∷ []) no_move_trouble (no_fault 2 2) (inl many)
  move_full (inr over) = full-told m t letter.Move f (None ∷ None ∷ []) no_move_trouble (no_fault 2 2) (inr (too_large m t f.third read got over))

  move_fine : (new : NewFormula) → length t.moves < most_moves → AddedTo t.size read new → (w : Refusal) → LineWrong m t letter.Move f w → ⊥
  move_fine new few fits = none_told m t letter.Move f (None ∷ None ∷ []) no_move_trouble (no_fault 2 2) room
    where
      room : (most_moves ≤ length t.moves) ⊎ TooLarge m t f.third → ⊥
      room (inl many) = omega arith
      room (inr large) = not_large m t f.third read got new fits large

  pub move_read : length t.moves < most_moves → (r : Result NewFormula Refusal) → Added t read r → LineRead m t letter.Move f (λ new. AddsFormula m t f.third (with_formula t new)) r
  move_read few (Ok new) fits = (move_fine new few fits, adds-formula m t f.third read got new fits)
  move_read few (Err w) full = inr (subst (Lowest (LineWrong m t letter.Move f)) (sym full.0) (move_full (inr full.1)))

-- what is told whether a table is full or not is what is wrong with the fields
with-room : (ts : List (Option Trouble)) (w : Refusal) → Lowest (LineFault ts false) w → Lowest (FieldFault 2 ts) w
with-room ts w low = record { holds = of_fields low.holds; first = λ v e. low.first v (inl e) }
  where
    of_fields : LineFault ts false w → FieldFault 2 ts w
    of_fields (inl e) = e
    of_fields (inr e) = absurd (false≢true e.1)

-- the goal
module _ {F : Type 0} (m : Meaning F) (t : Tables F) (f : Fields) where
  of_goal : (x : Result SizedFormula Trouble) → FormulaRead (number_among m t) f.second x → Faults m t letter.Goal f (result_err x ∷ [])
  of_goal x read = one-field m t letter.Goal f (result_err x) (formula_found (number_among m t) f.second x read) (found_nothing m t f.third) (found_nothing m t f.fourth)

  pub goal_told : (x : Result SizedFormula Trouble) → FormulaRead (number_among m t) f.second x → (w : Refusal) → Lowest (LineFault (result_err x ∷ []) false) w → Lowest (LineWrong m t letter.Goal f) w
  goal_told x read w low = field_told m t letter.Goal f (result_err x ∷ []) (of_goal x read) w (with-room (result_err x ∷ []) w low)

  module _ (read : SizedFormula) (got : FormulaRead (number_among m t) f.second (Ok read)) where
    no_goal_trouble : Faults m t letter.Goal f (None ∷ [])
    no_goal_trouble = of_goal (Ok read) got

    pub goal_read : (r : Result NewFormula Refusal) → Added t read r → LineRead m t letter.Goal f (λ new. AddsFormula m t f.second (with_formula t new)) r
    goal_read (Ok new) fits =
        (none_told m t letter.Goal f (None ∷ []) no_goal_trouble (no_fault 1 2) (not_large m t f.second read got new fits), adds-formula m t f.second read got new fits)
    goal_read (Err w) full =
        inr (subst (Lowest (LineWrong m t letter.Goal f)) (sym full.0) (full-told m t letter.Goal f (None ∷ []) no_goal_trouble (no_fault 1 2) (too_large m t f.second read got full.1)))

-- an effect
module _ {F : Type 0} (m : Meaning F) (t : Tables F) (f : Fields) where
  by_list : (text : List ℕ) (a : Result FactList Trouble) → Comes (list_reading (number_among m t) text) a → Found m t fact_list text (result_err a)
  by_list text a came = same-trouble (result_err a) _ (list_trouble (list_reading (number_among m t) text) a came)

  pub effect_told : (x : Result SizedFormula Trouble) (a b : Result FactList Trouble) → FormulaRead (number_among m t) f.second x → Comes (list_reading (number_among m t) f.third) a → Comes (list_reading (number_among m t) f.fourth) b → (w : Refusal) → Lowest (FieldFault 2 (result_err x ∷ result_err a ∷ result_err b ∷ [])) w → Lowest (LineWrong m t letter.Effect f) w
  effect_told x a b read sets strikes = field_told m t letter.Effect f (result_err x ∷ result_err a ∷ result_err b ∷ []) (three-fields m t letter.Effect f (result_err x) (result_err a) (result_err b) (formula_found (number_among m t) f.second x read) (by_list f.third a sets) (by_list f.fourth b strikes))

  module _ (read : SizedFormula) (k l : FactList) (got : FormulaRead (number_among m t) f.second (Ok read)) (sets : list_reading (number_among m t) f.third ≡ Ok (numbers_of k)) (strikes : list_reading (number_among m t) f.fourth ≡ Ok (numbers_of l)) where
    no_effect_trouble : Faults m t letter.Effect f (None ∷ None ∷ None ∷ [])
    no_effect_trouble = three-fields m t letter.Effect f None None None (formula_found (number_among m t) f.second (Ok read) got) (by_list f.third (Ok k) sets) (by_list f.fourth (Ok l) strikes)

    pub effect_full : EffectsFull t ⊎ (most_size < t.size + read.size) → Lowest (LineWrong m t letter.Effect f) TableFull
    effect_full full = full-told m t letter.Effect f (None ∷ None ∷ None ∷ []) no_effect_trouble (no_fault 3 2) (over full)
      where
        over : EffectsFull t ⊎ (most_size < t.size + read.size) → Overfull m t letter.Effect f
        over (inl (inl all)) = inl all
        over (inl (inr own)) = inr (inl own)
        over (inr large) = inr (inr (too_large m t f.second read got large))

    pub effect_fine : (new : NewFormula) → (EffectsFull t → ⊥) → AddedTo t.size read new → (w : Refusal) → LineWrong m t letter.Effect f w → ⊥
    effect_fine new few fits = none_told m t letter.Effect f (None ∷ None ∷ None ∷ []) no_effect_trouble (no_fault 3 2) room
      where
        room : Overfull m t letter.Effect f → ⊥
        room (inl all) = few (inl all)
        room (inr (inl own)) = few (inr own)
        room (inr (inr large)) = not_large m t f.second read got new fits large
