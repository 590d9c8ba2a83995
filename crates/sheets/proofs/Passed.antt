-- A walk over the lines of a depot sheet, of which none so far has a fault. Assumes nothing.
use Rattle.std.proofs.Common.{◌≡◌, ◌≢◌, ℕ, ◌+◌, ◌<◌, ◌≤◌, List, [], ◌∷◌, ◌++◌, length, take, drop, Some, Result, Ok, Err, MatchResult, ap, ◌∙◌, sym, subst, refl, arith, length-drop}
use Rattle.std.specs.List.{slice_get}
use Rattle.std.proofs.lemmas.List.{take_all}
use Rattle.std.proofs.lemmas.Option.{slice_get_within}
use Rattle.sheets.specs.declared.faults.Fault.{Fault}
use Rattle.sheets.specs.declared.faults.Sheet.TheVariants.{Depot}
use Rattle.sheets.specs.declared.layout.Above.{Above}
use Rattle.sheets.specs.declared.letters.Letter.TheVariants.{Goal}
use Rattle.sheets.specs.declared.refusals.Refusal.{Refusal}
use Rattle.sheets.specs.declared.refusals.Refusal.TheVariants.{OverLimit, NoGoal}
use Rattle.sheets.specs.Faults.{Lowest, SheetFaultless, SheetRefused}
use Rattle.sheets.specs.Layout.{Unfinished, above_of, depot_limit, last_letter}
use Rattle.sheets.specs.Lines.{Line, lines_of}
use Rattle.sheets.proofs.Places.{drop-next, nth_here, take_next}
use Rattle.sheets.proofs.Sheetwise.{Clear, Late, clear-more, end_refused, end-right, line_refused, over-limit}

-- the first n lines of s have no fault, a is what they say of the next, and rest is what is left of s
pub record Passed (Wrong : List Line → Line → Refusal → Type 0) (s rest : List ℕ) (n : ℕ) (a : Above) : Type 0 where
  pub left : drop n (lines_of s) ≡ lines_of rest
  pub seen : a ≡ above_of (take n (lines_of s))
  pub clear : Clear Wrong (lines_of s) n
  pub within : n ≤ length (lines_of s)

module _ (Wrong : List Line → Line → Refusal → Type 0) (s rest : List ℕ) (n : ℕ) (a : Above) (passed : Passed Wrong s rest n a) where
  -- one line more
  module _ (l : Line) (below : List ℕ) (next : lines_of rest ≡ l ∷ lines_of below) where
    here : drop n (lines_of s) ≡ l ∷ lines_of below
    here = passed.left ∙ next

    pub at_place : slice_get (lines_of s) n ≡ Some l
    at_place = nth_here (lines_of s) n l (lines_of below) here

    pub one_more : take (n + 1) (lines_of s) ≡ take n (lines_of s) ++ l ∷ []
    one_more = take_next (lines_of s) n l (lines_of below) here

    pub passed-on : (b : Above) → ((w : Refusal) → Wrong (take n (lines_of s)) l w → ⊥) → b ≡ above_of (take n (lines_of s) ++ l ∷ []) → Passed Wrong s below (n + 1) b
    passed-on b right is = record {
      left = drop-next (lines_of s) n l (lines_of below) here;
      seen = is ∙ ap above_of (sym one_more);
      clear = clear-more Wrong (lines_of s) n l at_place passed.clear right;
      within = omega (arith, slice_get_within (lines_of s) n l at_place);
    }

  -- no line is left
  module _ (none : lines_of rest ≡ []) where
    pub count : n ≡ length (lines_of s)
    count = omega (arith, length-drop n (lines_of s), ap length (passed.left ∙ none), passed.within)

    pub whole : take n (lines_of s) ≡ lines_of s
    whole = take_all n (lines_of s) (omega (arith, count))

module _ (Wrong : List Line → Line → Refusal → Type 0) (late : Late Wrong Unfinished) (s : List ℕ) where
  -- the fault that is told of s
  abbrev pub Told : Fault → Type 0
  Told f = (f.sheet ≡ Some Depot) × SheetRefused depot_limit Wrong Unfinished s f.line f.refusal

  told : (f : Fault) (n : ℕ) (w : Refusal) → f.sheet ≡ Some Depot → f.line ≡ n → f.refusal ≡ w → SheetRefused depot_limit Wrong Unfinished s n w → Told f
  told f n w on at for low = (on, subst (λ i. SheetRefused depot_limit Wrong Unfinished s i f.refusal) (sym at) (subst (SheetRefused depot_limit Wrong Unfinished s n) (sym for) low))

  pub too_long : (f : Fault) → (depot_limit < length s) × (f.sheet ≡ Some Depot) × (f.line ≡ 0) × (f.refusal ≡ OverLimit) → Told f
  too_long f over = told f 0 OverLimit over.1 over.2 over.3 (over-limit depot_limit Wrong Unfinished late s over.0)

  module _ (few : length s ≤ depot_limit) (rest : List ℕ) (n : ℕ) (a : Above) (passed : Passed Wrong s rest n a) where
    pub line_told : (l : Line) (below : List ℕ) → lines_of rest ≡ l ∷ lines_of below → (f : Fault) (w : Refusal) → Lowest (Wrong (take n (lines_of s)) l) w → f.sheet ≡ Some Depot → f.line ≡ n + 1 → f.refusal ≡ w → Told f
    line_told l below next f w low on at for = told f (n + 1) w on at for (line_refused depot_limit Wrong Unfinished late s few n l w (at_place Wrong s rest n a passed l below next) passed.clear low)

    -- what is told of s by what is judged of its end
    module _ (none : lines_of rest ≡ []) where
      clear-all : Clear Wrong (lines_of s) (length (lines_of s))
      clear-all = subst (Clear Wrong (lines_of s)) (count Wrong s rest n a passed none) passed.clear

      letter_is : a.letter ≡ last_letter (lines_of s)
      letter_is = ap (λ x. x.letter) passed.seen ∙ ap last_letter (whole Wrong s rest n a passed none)

      pub ended : (r : Result (Unit {0}) Fault) → MatchResult r (λ _. a.letter ≡ Some Goal) (λ f. (a.letter ≢ Some Goal) × (f.sheet ≡ Some Depot) × (f.line ≡ length (lines_of s)) × (f.refusal ≡ NoGoal)) → MatchResult r (λ _. SheetFaultless depot_limit Wrong Unfinished s) Told
      ended (Ok _) is = end-right depot_limit Wrong Unfinished late s few clear-all (λ v f. f.1 (sym letter_is ∙ is))
      ended (Err f) judged =
          told f (length (lines_of s)) NoGoal judged.1 judged.2 judged.3
          (end_refused depot_limit Wrong Unfinished late s few clear-all NoGoal (refl, λ is. judged.0 (letter_is ∙ is)) (λ v f. f.0))
