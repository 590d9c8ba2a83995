-- A walk over the lines of a depot sheet, which reads each into the tables. Assumes nothing.
use Rattle.std.proofs.Common.{◌≡◌, ◌≢◌, ℕ, ◌+◌, ◌<◌, ◌≤◌, ◌||◌, ◌⊎◌, List, [], ◌∷◌, length, take, Some, Ok, Err, Result, MatchResult, sym, ap, ◌∙◌, subst, inl, inr}
use Rattle.sheets.specs.declared.faults.Fault.{Fault}
use Rattle.sheets.specs.declared.faults.Sheet.TheVariants.{Depot}
use Rattle.sheets.specs.declared.layout.Above.{Above}
use Rattle.sheets.specs.declared.letters.Letter.{Letter}
use Rattle.sheets.specs.declared.letters.Letter.TheVariants.{Goal}
use Rattle.sheets.specs.declared.refusals.Refusal.{Refusal}
use Rattle.sheets.specs.declared.refusals.Refusal.TheVariants.{NoGoal, NoMemory, OverLimit}
use Rattle.sheets.specs.Faults.{Lowest}
use Rattle.sheets.specs.Layout.{LayoutFault, above_of, depot_limit, letter_on, says_sight}
use Rattle.sheets.specs.Lines.{Line, lines_of}
use Rattle.sheets.proofs.LaidOut.{above_of-push}
use Rattle.sheets.proofs.Passed as passed
use Rattle.sheets.proofs.Passed.{Passed, line_told, one_more, passed-on, whole}
use Rattle.depots.specs.Kinds.{Meaning}
use Rattle.depots.specs.Spelling.{Adds, DepotRead, DepotTold, Spelled, Wrong, WrongUnder, fields_on}
use Rattle.depots.specs.Tables.{Tables, no_tables}
use Rattle.depots.specs.Troubles.{Placed}
use Rattle.depots.specs.Wrong.{LineWrong}
use Rattle.depots.proofs.Added.{late, spelled-one, spelled-push}

-- the first n lines of s have no fault and spell the tables t, a is what they say of the next, and rest is what is left
pub record Walked {F : Type 0} (m : Meaning F) (s rest : List ℕ) (n : ℕ) (a : Above) (t : Tables F) : Type 0 where
  pub passed : Passed (Wrong m) s rest n a
  pub spelled : Spelled m (take n (lines_of s)) t

module _ {F : Type 0} (m : Meaning F) (s : List ℕ) where
  pub too_long : (f : Fault) → (depot_limit < length s) × (f.sheet ≡ Some Depot) × (f.line ≡ 0) × (f.refusal ≡ OverLimit) → DepotTold m s f
  too_long f over = inr (passed.too_long (Wrong m) (late m) s f over)

  module _ (rest : List ℕ) (n : ℕ) (a : Above) (t : Tables F) (walked : Walked m s rest n a t) where
    seen : a ≡ above_of (take n (lines_of s))
    seen = walked.passed.seen

    -- one line more
    module _ (l : Line) (below : List ℕ) (next : lines_of rest ≡ l ∷ lines_of below) where
      under : (w : Refusal) → Wrong m (take n (lines_of s)) l w → WrongUnder m t a l w
      under w (inl f) = inl (subst (λ x. LayoutFault x l w) (sym seen) f)
      under w (inr f) = inr (subst (λ x. (k : Letter) × (letter_on l ≡ Some k) × LineWrong m x k (fields_on l) w) (spelled-one m no_tables (take n (lines_of s)) f.0 t f.1 walked.spelled) f.2)

      wrong : (w : Refusal) → WrongUnder m t a l w → Wrong m (take n (lines_of s)) l w
      wrong w (inl f) = inl (subst (λ x. LayoutFault x l w) seen f)
      wrong w (inr f) = inr (t, walked.spelled, f)

      pub walk-on : (k : Letter) (b : Above) (u : Tables F) → (letter_on l ≡ Some k) × ((w : Refusal) → WrongUnder m t a l w → ⊥) × Adds m t k (fields_on l) u → b.letter ≡ Some k → b.sight ≡ (a.sight || says_sight l) → Walked m s below (n + 1) b u
      walk-on k b u added letter sight = record {
        passed = passed-on (Wrong m) s rest n a walked.passed l below next b (λ w f. added.1 w (under w f)) (above_of-push (take n (lines_of s)) l k b added.0 letter (sight ∙ ap (λ x. x.sight || says_sight l) seen));
        spelled = subst (λ ls. Spelled m ls u) (sym (one_more (Wrong m) s rest n a walked.passed l below next)) (spelled-push m no_tables (take n (lines_of s)) t l k u walked.spelled added.0 added.2);
      }

      pub stopped : (w : Refusal) (f : Fault) → length s ≤ depot_limit → (w ≡ NoMemory) ⊎ Lowest (WrongUnder m t a l) w → Placed Depot (n + 1) w f → DepotTold m s f
      stopped w f few told (inl memory) = inl (memory.1, memory.2, memory.3)
      stopped w f few (inr low) (inr at) =
          inr (line_told (Wrong m) (late m) s few rest n a walked.passed l below next f w (record { holds = wrong w low.holds; first = λ v e. low.first v (under v e) }) at.1 at.2 at.3)
      stopped w f few (inl e) (inr at) = absurd (at.0 e)

    -- what is told of a whole sheet by what is judged of its end
    pub ended : lines_of rest ≡ [] → length s ≤ depot_limit → (r : Result (Unit {0}) Fault) → MatchResult r (λ _. a.letter ≡ Some Goal) (λ f. (a.letter ≢ Some Goal) × (f.sheet ≡ Some Depot) × (f.line ≡ length (lines_of s)) × (f.refusal ≡ NoGoal)) → MatchResult r (λ _. DepotRead m s t) (DepotTold m s)
    ended none few (Ok v) judged = record {
      faultless = passed.ended (Wrong m) (late m) s few rest n a walked.passed none (Ok v) judged;
      spelled = subst (λ ls. Spelled m ls t) (whole (Wrong m) s rest n a walked.passed none) walked.spelled;
    }
    ended none few (Err f) judged = inr (passed.ended (Wrong m) (late m) s few rest n a walked.passed none (Err f) judged)
