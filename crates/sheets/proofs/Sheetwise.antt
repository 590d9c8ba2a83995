-- The first fault of a sheet, as a walk over its lines comes to it. Assumes nothing.
use Rattle.std.proofs.Common.{◌≡◌, ℕ, ◌+◌, ◌<◌, ◌≤◌, List, ◌∷◌, length, take, Some, sym, refl, ap, ◌∙◌, subst, inl, inr, ⊎_elim, arith}
use Rattle.std.specs.List.{slice_get}
use Rattle.std.proofs.lemmas.Bool.{cases_lt, cases_order}
use Rattle.sheets.specs.declared.refusals.Refusal.{Refusal}
use Rattle.sheets.specs.declared.refusals.Refusal.TheVariants.{OverLimit}
use Rattle.sheets.specs.Faults.{NoLater, Lowest, SheetFault, SheetRefused, SheetFaultless}
use Rattle.sheets.specs.Faults.SheetFault.{over, line, end}
use Rattle.sheets.specs.Lines.{Line, lines_of}
use Rattle.sheets.specs.Refusals.{rank_of}
use Rattle.sheets.proofs.Judged.{no_later_itself}
use Rattle.std.proofs.lemmas.Option.{slice_get_within, same_Some}

-- what is wrong with the whole is told after what is wrong with its size or with a line
pub record Late (Wrong : List Line → Line → Refusal → Type 0) (Lacking : List Line → Refusal → Type 0) : Type 0 where
  pub size : (ls : List Line) (v : Refusal) → Lacking ls v → NoLater (rank_of OverLimit) (rank_of v)
  pub lines : (above : List Line) (l : Line) (w : Refusal) → Wrong above l w → (ls : List Line) (v : Refusal) → Lacking ls v → NoLater (rank_of w) (rank_of v)

-- none of the first n lines has a fault
abbrev pub Clear : (List Line → Line → Refusal → Type 0) → List Line → ℕ → Type 0
Clear Wrong ls n = (k : ℕ) (l : Line) → k < n → slice_get ls k ≡ Some l → (w : Refusal) → Wrong (take k ls) l w → ⊥

pub clear-more : (Wrong : List Line → Line → Refusal → Type 0) (ls : List Line) (n : ℕ) (l : Line) → slice_get ls n ≡ Some l → Clear Wrong ls n → ((w : Refusal) → Wrong (take n ls) l w → ⊥) → Clear Wrong ls (n + 1)
clear-more Wrong ls n l is clear right k m below here w f =
    ⊎_elim
    (λ (under : k < n). clear k m under here w f)
    (λ (at : n ≤ k).
    let same : k ≡ n = omega arith in
    let line : m ≡ l = same_Some m l (sym here ∙ ap (slice_get ls) same ∙ is) in
    right w (subst (λ x. Wrong (take n ls) x w) line (subst (λ i. Wrong (take i ls) m w) same f)))
    (cases_lt k n)

module _ (limit : ℕ) (Wrong : List Line → Line → Refusal → Type 0) (Lacking : List Line → Refusal → Type 0) (late : Late Wrong Lacking) (s : List ℕ) where
  pub over-limit : limit < length s → SheetRefused limit Wrong Lacking s 0 OverLimit
  over-limit more = record { holds = over more; first = by_fault }
    where
      at-end : (n : ℕ) (v : Refusal) → Lacking (lines_of s) v → NoLater (0 ∷ rank_of OverLimit) (n ∷ rank_of v)
      at-end n v f = ⊎_elim (λ (z : n ≡ 0). inr (sym z, late.size (lines_of s) v f)) (λ x. inl (⊎_elim (λ (low : n < 0). absurd (omega arith)) (λ (high : 0 < n). high) x)) (cases_order n 0)

      by_fault : (m : ℕ) (v : Refusal) → SheetFault limit Wrong Lacking s m v → NoLater (0 ∷ rank_of OverLimit) (m ∷ rank_of v)
      by_fault _ _ (over _) = no_later_itself (0 ∷ rank_of OverLimit)
      by_fault _ _ (line k l here f) = inl (omega arith)
      by_fault _ v (end f) = at-end _ v f

  module _ (few : length s ≤ limit) where
    pub line_refused : (n : ℕ) (l : Line) (w : Refusal) → slice_get (lines_of s) n ≡ Some l → Clear Wrong (lines_of s) n → Lowest (Wrong (take n (lines_of s)) l) w → SheetRefused limit Wrong Lacking s (n + 1) w
    line_refused n l w here clear low = record { holds = line n l here low.holds; first = by_fault }
      where
        by_line : (k : ℕ) (m : Line) (v : Refusal) → slice_get (lines_of s) k ≡ Some m → Wrong (take k (lines_of s)) m v → NoLater ((n + 1) ∷ rank_of w) ((k + 1) ∷ rank_of v)
        by_line k m v is f =
            ⊎_elim
            (λ (same : n ≡ k).
            let one : m ≡ l = same_Some m l (sym is ∙ ap (slice_get (lines_of s)) (sym same) ∙ here) in
            inr (ap (λ i. i + 1) same, low.first v (subst (λ x. Wrong (take n (lines_of s)) x v) one (subst (λ i. Wrong (take i (lines_of s)) m v) (sym same) f))))
            (λ x. ⊎_elim (λ (later : n < k). inl (omega arith)) (λ (before : k < n). absurd (clear k m before is v f)) x)
            (cases_order n k)

        at-end : (m : ℕ) (v : Refusal) → m ≡ length (lines_of s) → Lacking (lines_of s) v → NoLater ((n + 1) ∷ rank_of w) (m ∷ rank_of v)
        at-end m v count f =
            let within = slice_get_within (lines_of s) n l here in
            ⊎_elim (λ (more : n + 1 < m). inl more) (λ (last : m ≤ n + 1). inr (omega arith, late.lines (take n (lines_of s)) l w low.holds (lines_of s) v f)) (cases_lt (n + 1) m)

        by_fault : (m : ℕ) (v : Refusal) → SheetFault limit Wrong Lacking s m v → NoLater ((n + 1) ∷ rank_of w) (m ∷ rank_of v)
        by_fault _ _ (over more) = absurd (omega arith)
        by_fault _ v (line k m is f) = by_line k m v is f
        by_fault _ v (end f) = at-end _ v refl f

    module _ (clear : Clear Wrong (lines_of s) (length (lines_of s))) where
      -- only the end can be wrong
      at-the_end : (m : ℕ) (v : Refusal) → SheetFault limit Wrong Lacking s m v → (m ≡ length (lines_of s)) × Lacking (lines_of s) v
      at-the_end _ _ (over more) = absurd (omega arith)
      at-the_end _ v (line k l is f) = absurd (clear k l (slice_get_within (lines_of s) k l is) is v f)
      at-the_end _ v (end f) = (refl, f)

      pub end_refused : (w : Refusal) → Lacking (lines_of s) w → ((v : Refusal) → Lacking (lines_of s) v → v ≡ w) → SheetRefused limit Wrong Lacking s (length (lines_of s)) w
      end_refused w f only = record {
        holds = end f;
        first = λ m v g. let x = at-the_end m v g in inr (sym x.0, subst (λ u. NoLater (rank_of w) (rank_of u)) (sym (only v x.1)) (no_later_itself (rank_of w)));
      }

      pub end-right : ((v : Refusal) → Lacking (lines_of s) v → ⊥) → SheetFaultless limit Wrong Lacking s
      end-right none m v f = none v (at-the_end m v f).1
