-- A walk over the lines of a plan sheet, which adds the step of each. Assumes nothing.
use Rattle.std.proofs.Common.{◌≡◌, ℕ, suc, ◌+◌, ◌<◌, ◌≤◌, ◌⊎◌, List, [], ◌∷◌, ◌++◌, map, length, take, Some, sym, refl, ap, ◌∙◌, subst, inl, inr}
use Rattle.sheets.specs.declared.faults.Fault.{Fault}
use Rattle.sheets.specs.declared.faults.Sheet.TheVariants.{Plan}
use Rattle.sheets.specs.declared.refusals.Refusal.{Refusal}
use Rattle.sheets.specs.declared.refusals.Refusal.TheVariants.{NoMemory, OverLimit}
use Rattle.sheets.specs.Faults.{Lowest}
use Rattle.sheets.specs.Layout.{above_of, fields}
use Rattle.sheets.specs.Lines.{Line, lines_of}
use Rattle.sheets.proofs.Passed.{Passed, at_place, count, one_more, passed-on, whole}
use Rattle.sheets.proofs.Sheetwise.{Clear, Late, end-right, line_refused, over-limit}
use Rattle.std.proofs.lemmas.Option.{same_Some}
use Rattle.depots.specs.Troubles.{Placed}
use Rattle.plans.specs.Spelling.{LacksNothing, NameMoves, PlanRead, PlanRefused, PlanTold, Spelled, Wrong}
use Rattle.plans.specs.Wrong.{LineWrong, plan_limit}

-- two rows of values are one
same_values : (xs ys : List ℕ) → map Some xs ≡ map Some ys → xs ≡ ys
same_values [] [] same = refl
same_values [] (y ∷ ys) same = cc
same_values (x ∷ xs) [] same = cc
same_values (x ∷ xs) (y ∷ ys) same =
    let first : Some x ≡ Some y = cc in
    let rest : map Some xs ≡ map Some ys = cc in
    ap (λ z. z ∷ xs) (same_Some x y first) ∙ ap (λ zs. y ∷ zs) (same_values xs ys rest)

module _ (names : List (List ℕ)) where
  -- lines spell as many steps as they are
  pub spelled_length : (ls : List Line) (steps : List (List ℕ)) → Spelled names ls steps → length steps ≡ length ls
  spelled_length [] [] a = refl
  spelled_length [] (moves ∷ steps) a = absurd a
  spelled_length (l ∷ ls) [] a = absurd a
  spelled_length (l ∷ ls) (moves ∷ steps) a = ap suc (spelled_length ls steps a.1)

  -- one line more
  spelled-push : (ls : List Line) (steps : List (List ℕ)) (l : Line) (moves : List ℕ) → Spelled names ls steps → NameMoves names (fields l) moves → Spelled names (ls ++ l ∷ []) (steps ++ moves ∷ [])
  spelled-push [] [] l moves a here = (here, tt)
  spelled-push [] (other ∷ steps) l moves a here = absurd a
  spelled-push (m ∷ ls) [] l moves a here = absurd a
  spelled-push (m ∷ ls) (other ∷ steps) l moves a here = (a.0, spelled-push ls steps l moves a.1 here)

  -- lines spell one plan at the most
  pub spelled-one : (ls : List Line) (steps other : List (List ℕ)) → Spelled names ls steps → Spelled names ls other → steps ≡ other
  spelled-one [] [] [] a b = refl
  spelled-one [] [] (moves ∷ other) a b = absurd b
  spelled-one [] (moves ∷ steps) other a b = absurd a
  spelled-one (l ∷ ls) [] other a b = absurd a
  spelled-one (l ∷ ls) (moves ∷ steps) [] a b = absurd b
  spelled-one (l ∷ ls) (moves ∷ steps) (ms ∷ other) a b = ap (λ x. x ∷ steps) (same_values moves ms (sym a.0 ∙ b.0)) ∙ ap (λ xs. ms ∷ xs) (spelled-one ls steps other a.1 b.1)

  late : Late (Wrong names) LacksNothing
  late = record { size = λ ls v f. absurd f; lines = λ above l w g ls v f. absurd f }

  told : (s : List ℕ) (f : Fault) (n : ℕ) (w : Refusal) → f.sheet ≡ Some Plan → f.line ≡ n → f.refusal ≡ w → PlanRefused names s n w → PlanTold names s f
  told s f n w on at for low = inr (on, subst (λ i. PlanRefused names s i f.refusal) (sym at) (subst (PlanRefused names s n) (sym for) low))

  pub too_long : (s : List ℕ) (f : Fault) → (plan_limit < length s) × (f.sheet ≡ Some Plan) × (f.line ≡ 0) × (f.refusal ≡ OverLimit) → PlanTold names s f
  too_long s f over = told s f 0 OverLimit over.1 over.2 over.3 (over-limit plan_limit (Wrong names) LacksNothing late s over.0)

  -- the first n lines of s have no fault and spell the steps, and rest is what is left
  pub record Walked (s rest : List ℕ) (n : ℕ) (steps : List (List ℕ)) : Type 0 where
    pub passed : Passed (Wrong names) s rest n (above_of (take n (lines_of s)))
    pub spelled : Spelled names (take n (lines_of s)) steps

  module _ (s rest : List ℕ) (n : ℕ) (steps : List (List ℕ)) (walked : Walked s rest n steps) where
    -- one line more
    module _ (l : Line) (below : List ℕ) (next : lines_of rest ≡ l ∷ lines_of below) where
      wrong : (w : Refusal) → LineWrong names (length steps) l w → Wrong names (take n (lines_of s)) l w
      wrong w f = subst (λ k. LineWrong names k l w) (spelled_length (take n (lines_of s)) steps walked.spelled) f

      under : (w : Refusal) → Wrong names (take n (lines_of s)) l w → LineWrong names (length steps) l w
      under w f = subst (λ k. LineWrong names k l w) (sym (spelled_length (take n (lines_of s)) steps walked.spelled)) f

      pub walk-on : (new : List (List ℕ)) → ((w : Refusal) → LineWrong names (length steps) l w → ⊥) × ((moves : List ℕ) × NameMoves names (fields l) moves × (new ≡ steps ++ moves ∷ [])) → Walked s below (n + 1) new
      walk-on new added =
          let longer = one_more (Wrong names) s rest n _ walked.passed l below next in
          record {
            passed = passed-on (Wrong names) s rest n _ walked.passed l below next (above_of (take (n + 1) (lines_of s))) (λ w f. added.0 w (under w f)) (ap above_of longer);
            spelled = subst (Spelled names (take (n + 1) (lines_of s))) (sym added.1.2) (subst (λ ls. Spelled names ls (steps ++ added.1.0 ∷ [])) (sym longer) (spelled-push (take n (lines_of s)) steps l added.1.0 walked.spelled added.1.1));
          }

      pub stopped : (w : Refusal) (f : Fault) → length s ≤ plan_limit → (w ≡ NoMemory) ⊎ Lowest (LineWrong names (length steps) l) w → Placed Plan (n + 1) w f → PlanTold names s f
      stopped w f few reason (inl memory) = inl (memory.1, memory.2, memory.3)
      stopped w f few (inl e) (inr at) = absurd (at.0 e)
      stopped w f few (inr low) (inr at) =
          told s f (n + 1) w at.1 at.2 at.3
          (line_refused plan_limit (Wrong names) LacksNothing late s few n l w (at_place (Wrong names) s rest n _ walked.passed l below next) walked.passed.clear (record { holds = wrong w low.holds; first = λ v e. low.first v (under v e) }))

    -- no line is left
    pub ended : lines_of rest ≡ [] → length s ≤ plan_limit → PlanRead names s steps
    ended none few = record {
      faultless = end-right plan_limit (Wrong names) LacksNothing late s few (subst (Clear (Wrong names) (lines_of s)) (count (Wrong names) s rest n _ walked.passed none) walked.passed.clear) (λ v f. f);
      spelled = subst (λ ls. Spelled names ls steps) (whole (Wrong names) s rest n _ walked.passed none) walked.spelled;
    }
