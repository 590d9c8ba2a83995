-- A refusal is known by its rank, so that no two are the lowest. Assumes nothing.
use Rattle.std.proofs.Common.{◌≡◌, ℕ, List, [], ◌∷◌, get_or, drop, sym, refl, ap, ◌∙◌, inl, inr, arith}
use Rattle.sheets.specs.declared.refusals.Refusal.{Refusal}
use Rattle.sheets.specs.declared.refusals.Refusal.TheVariants.{OverLimit, BadLine, BadLetter, FieldCount, NotItsForm, NotListed, Twice, AlwaysTrue, TableFull, NoGoal, StepSize, UnknownMove, RepeatedMove, NeedFalse, Contradictory, Disturbed, GoalFalse, UnknownNumber, BufferShort, NoMemory}
use Rattle.sheets.specs.Faults.{NoLater, SheetRefused}
use Rattle.sheets.specs.Lines.{Line}
use Rattle.sheets.specs.Refusals.{rank_of}

-- the reasons in the order of their numbers, with the details a to d
reasons : ℕ → ℕ → ℕ → ℕ → List Refusal
reasons a b c d = NoMemory ∷ OverLimit ∷ BadLine ∷ BadLetter ∷ FieldCount ∷ NotItsForm a ∷ NotListed a ∷ Twice a ∷ AlwaysTrue a ∷ TableFull ∷ NoGoal ∷ StepSize ∷ UnknownMove a ∷ RepeatedMove a ∷ NeedFalse a ∷ Contradictory a b c d ∷ Disturbed a b c ∷ GoalFalse ∷ UnknownNumber ∷ BufferShort ∷ []

-- the refusal with a rank
ranked : List ℕ → Refusal
ranked r = get_or (reasons (get_or r 1 0) (get_or r 2 0) (get_or r 3 0) (get_or r 4 0)) (get_or r 0 0) NoMemory

ranked-is : (w : Refusal) → ranked (rank_of w) ≡ w
unfolding ranked reasons
ranked-is NoMemory = refl
ranked-is w = refl

-- two rows of which neither comes later are one
pub same_rows : (xs ys : List ℕ) → NoLater xs ys → NoLater ys xs → xs ≡ ys
same_rows [] [] p q = refl
same_rows [] (y ∷ ys) p q = absurd q
same_rows (x ∷ xs) [] p q = absurd p
same_rows (x ∷ xs) (y ∷ ys) (inl less) (inl more) = absurd (omega arith)
same_rows (x ∷ xs) (y ∷ ys) (inl less) (inr e) = absurd (omega (arith, e.0))
same_rows (x ∷ xs) (y ∷ ys) (inr e) (inl more) = absurd (omega (arith, e.0))
same_rows (x ∷ xs) (y ∷ ys) (inr e) (inr f) = ap (λ z. z ∷ xs) e.0 ∙ ap (λ zs. y ∷ zs) (same_rows xs ys e.1 f.1)

-- two refusals of one rank are one
pub same_rank : (w v : Refusal) → rank_of w ≡ rank_of v → w ≡ v
same_rank w v same = sym (ranked-is w) ∙ ap ranked same ∙ ranked-is v

-- a sheet has one refusal at the most, whatever is judged of its lines
pub one-refusal : {limit : ℕ} {Wrong : List Line → Line → Refusal → Type 0} {Lacking : List Line → Refusal → Type 0} {s : List ℕ} {n m : ℕ} {w v : Refusal} → SheetRefused limit Wrong Lacking s n w → SheetRefused limit Wrong Lacking s m v → (n ≡ m) × (w ≡ v)
one-refusal {n} {m} {w} {v} p q =
    let same = same_rows (n ∷ rank_of w) (m ∷ rank_of v) (p.first m v q.holds) (q.first n w p.holds) in
    (ap (λ r. get_or r 0 0) same, same_rank w v (ap (drop 1) same))
