-- What is told of a line, by what was found of its fields. Assumes nothing.
use Rattle.std.proofs.Common.{◌≡◌, ℕ, ◌+◌, Bool, true, List, [], ◌∷◌, ◌++◌, Some, None, Ok, Err, Option, Result, sym, refl, subst, inl, inr}
use Rattle.std.proofs.lemmas.Option.{none-some}
use Rattle.sheets.specs.declared.letters.Letter.{Letter}
use Rattle.sheets.specs.declared.refusals.Refusal.{Refusal}
use Rattle.sheets.specs.declared.refusals.Refusal.TheVariants.{TableFull}
use Rattle.sheets.specs.Faults.{Lowest, NoLater}
use Rattle.sheets.specs.Refusals.{rank_of}
use Rattle.sheets.proofs.Judged.{no_later_itself}
use Rattle.depots.specs.declared.troubles.Trouble.{Trouble}
use Rattle.depots.specs.Entries.{Taken}
use Rattle.depots.specs.Kinds.{Meaning}
use Rattle.depots.specs.Spelling.{Adds, LineTaken}
use Rattle.depots.specs.Tables.{Tables}
use Rattle.depots.specs.Troubles.{FieldFault, LineFault, refusal_of}
use Rattle.depots.specs.Wrong.{FieldWrong, Fields, FieldsWrong, LineWrong, Overfull, Sort, sorts_of}
use Rattle.depots.specs.Wrong.Sort.{no_field}
use Rattle.depots.proofs.Fieldwise.{before-full}

-- what was found of a field is what is wrong with it
abbrev pub Found : {F : Type 0} → Meaning F → Tables F → Sort → List ℕ → Option Trouble → Type 0
Found m t s text o = (a : Trouble) → (FieldWrong m t s text a → o ≡ Some a) × (o ≡ Some a → FieldWrong m t s text a)

-- nothing where there is no field
pub found_nothing : {F : Type 0} (m : Meaning F) (t : Tables F) (text : List ℕ) → Found m t no_field text None
found_nothing m t text a = (λ wrong. absurd wrong, λ is. absurd (none-some _ is))

-- what is wrong with the fields of a line is that they have these troubles
abbrev pub Faults : {F : Type 0} → Meaning F → Tables F → Letter → Fields → List (Option Trouble) → Type 0
Faults m t k f ts = (w : Refusal) → (FieldsWrong m t k f w → FieldFault 2 ts w) × (FieldFault 2 ts w → FieldsWrong m t k f w)

-- a field that is none has no trouble
cut : (field : ℕ) (ts : List (Option Trouble)) (w : Refusal) → FieldFault field (ts ++ None ∷ []) w → FieldFault field ts w
cut field [] w (inl e) = absurd (none-some _ e)
cut field [] w (inr e) = e
cut field (t ∷ ts) w (inl e) = inl e
cut field (t ∷ ts) w (inr e) = inr (cut (field + 1) ts w e)

pad : (field : ℕ) (ts : List (Option Trouble)) (w : Refusal) → FieldFault field ts w → FieldFault field (ts ++ None ∷ []) w
pad field [] w e = absurd e
pad field (t ∷ ts) w (inl e) = inl e
pad field (t ∷ ts) w (inr e) = inr (pad (field + 1) ts w e)

module _ {F : Type 0} (m : Meaning F) (t : Tables F) (k : Letter) (f : Fields) where
  unpadded : (ts : List (Option Trouble)) → Faults m t k f (ts ++ None ∷ []) → Faults m t k f ts
  unpadded ts same w = (λ e. cut 2 ts w ((same w).0 e), λ e. (same w).1 (pad 2 ts w e))

  module _ (x y z : Option Trouble) (fx : Found m t (sorts_of m t k).second f.second x) (fy : Found m t (sorts_of m t k).third f.third y) (fz : Found m t (sorts_of m t k).fourth f.fourth z) where
    there : (field : ℕ) (s : Sort) (text : List ℕ) (o : Option Trouble) (w : Refusal) → Found m t s text o → (a : Trouble) → FieldWrong m t s text a → refusal_of (Some a) field ≡ Some w → refusal_of o field ≡ Some w
    there field s text o w found a wrong is = subst (λ q. refusal_of q field ≡ Some w) (sym ((found a).0 wrong)) is

    back : (field : ℕ) (s : Sort) (text : List ℕ) (o : Option Trouble) (w : Refusal) → Found m t s text o → refusal_of o field ≡ Some w → (a : Trouble) × FieldWrong m t s text a × (refusal_of (Some a) field ≡ Some w)
    back field s text None w found is = absurd (none-some _ is)
    back field s text (Some a) w found is = (a, (found a).1 refl, is)

    fault : (w : Refusal) → FieldsWrong m t k f w → FieldFault 2 (x ∷ y ∷ z ∷ []) w
    fault w (inl e) = inl (there 2 _ _ x w fx e.0 e.1 e.2)
    fault w (inr (inl e)) = inr (inl (there 3 _ _ y w fy e.0 e.1 e.2))
    fault w (inr (inr e)) = inr (inr (inl (there 4 _ _ z w fz e.0 e.1 e.2)))

    wrong : (w : Refusal) → FieldFault 2 (x ∷ y ∷ z ∷ []) w → FieldsWrong m t k f w
    wrong w (inl e) = inl (back 2 _ _ x w fx e)
    wrong w (inr (inl e)) = inr (inl (back 3 _ _ y w fy e))
    wrong w (inr (inr (inl e))) = inr (inr (back 4 _ _ z w fz e))
    wrong w (inr (inr (inr e))) = absurd e

    pub three-fields : Faults m t k f (x ∷ y ∷ z ∷ [])
    three-fields w = (fault w, wrong w)

  pub two-fields : (x y : Option Trouble) → Found m t (sorts_of m t k).second f.second x → Found m t (sorts_of m t k).third f.third y → Found m t (sorts_of m t k).fourth f.fourth None → Faults m t k f (x ∷ y ∷ [])
  two-fields x y fx fy fz = unpadded (x ∷ y ∷ []) (three-fields x y None fx fy fz)

  pub one-field : (x : Option Trouble) → Found m t (sorts_of m t k).second f.second x → Found m t (sorts_of m t k).third f.third None → Found m t (sorts_of m t k).fourth f.fourth None → Faults m t k f (x ∷ [])
  one-field x fx fy fz = unpadded (x ∷ []) (two-fields x None fx fy fz)

module _ {F : Type 0} (m : Meaning F) (t : Tables F) (k : Letter) (f : Fields) (ts : List (Option Trouble)) (same : Faults m t k f ts) where
  -- the lowest of the fields is told, be a table full or not
  pub field_told : (w : Refusal) → Lowest (FieldFault 2 ts) w → Lowest (LineWrong m t k f) w
  field_told w low = record { holds = inl ((same w).1 low.holds); first = by_fault }
    where
      by_fault : (v : Refusal) → LineWrong m t k f v → NoLater (rank_of w) (rank_of v)
      by_fault v (inl e) = low.first v ((same v).0 e)
      by_fault v (inr e) = subst (λ u. NoLater (rank_of w) (rank_of u)) (sym e.0) (inl (before-full 2 ts w low.holds))

  module _ (fine : (w : Refusal) → FieldFault 2 ts w → ⊥) where
    -- or a table that is full
    pub full-told : Overfull m t k f → Lowest (LineWrong m t k f) TableFull
    full-told over = record { holds = inr (refl, over); first = by_fault }
      where
        by_fault : (v : Refusal) → LineWrong m t k f v → NoLater (rank_of TableFull) (rank_of v)
        by_fault v (inl e) = absurd (fine v ((same v).0 e))
        by_fault v (inr e) = subst (λ u. NoLater (rank_of TableFull) (rank_of u)) (sym e.0) (no_later_itself (rank_of TableFull))

    -- or nothing
    pub none_told : (Overfull m t k f → ⊥) → (w : Refusal) → LineWrong m t k f w → ⊥
    none_told room w (inl e) = fine w ((same w).0 e)
    none_told room w (inr e) = room e.1

  -- a line that the tables took is taken by the rules
  pub line_taken : (u : Tables F) (full : Bool) (Grown Kept : Type 0) → (full ≡ true → Overfull m t k f) → (Overfull m t k f → full ≡ true) → (Grown → Adds m t k f u) → (r : Result Unit Refusal) → Taken ts full Grown Kept r → LineTaken m t k f r u
  line_taken u full Grown Kept is-full Full-is adds (Ok _) taken = (none_told (λ w e. taken.0 w (inl e)) (λ over. taken.0 TableFull (inr (refl, Full-is over))), adds taken.1)
  line_taken u full Grown Kept is-full Full-is adds (Err w) (inl e, kept) = inl e.0
  line_taken u full Grown Kept is-full Full-is adds (Err w) (inr low, kept) = inr (record { holds = holds low.holds; first = λ v e. low.first v (first v e) })
    where
      holds : LineFault ts full w → LineWrong m t k f w
      holds (inl e) = inl ((same w).1 e)
      holds (inr e) = inr (e.0, is-full e.1)

      first : (v : Refusal) → LineWrong m t k f v → LineFault ts full v
      first v (inl e) = inl ((same v).0 e)
      first v (inr e) = inr (e.0, Full-is e.1)
