-- A step is accepted exactly where no fault holds, and has one refusal at the most. Assumes nothing.
use Rattle.std.proofs.Common.{◌≡◌, ℕ, ◌<◌, ◌≤◌, true, false, List, length, sym, refl, ◌∙◌, inl, inr, arith}
use Rattle.std.proofs.lemmas.Bool.{cases_Bool, cases_lt, true≢false}
use Rattle.sheets.specs.declared.refusals.Refusal.{Refusal}
use Rattle.sheets.specs.declared.refusals.Refusal.TheVariants.{OverLimit, BadLine, BadLetter, FieldCount, NotItsForm, NotListed, Twice, AlwaysTrue, TableFull, NoGoal, StepSize, UnknownMove, RepeatedMove, NeedFalse, Contradictory, Disturbed, GoalFalse, UnknownNumber, BufferShort, NoMemory}
use Rattle.sheets.specs.Refusals.{number_of, rank_of}
use Rattle.sheets.proofs.Single.{same_rank, same_rows}
use Rattle.walkthroughs.specs.Depots.{Depot, State, Carrying, Listed, reads}
use Rattle.walkthroughs.specs.Disturbance.{AlikeInEveryOrder, DisturbedBySet, move_at}
use Rattle.std.specs.List.{list_any}
use Rattle.walkthroughs.specs.Firing.{contradictory, fired, settings_at, strikes_at}
use Rattle.walkthroughs.specs.Laws.{AcceptedUnlessFault, OneRefusal}
use Rattle.walkthroughs.specs.Lists.{times}
use Rattle.walkthroughs.specs.Steps.{Accepted, StepFault}
use Rattle.walkthroughs.proofs.Counts.{any-weaker}
use Rattle.walkthroughs.proofs.Disturbing.{alike-unless, disturbed-unless, order-to_set, set-to_order}
use Rattle.walkthroughs.proofs.Places.{FiredAt, any_swap, at-fired, fired-at, listed-or_not, place_of, times-at, times-twice, two-places}

-- what holds of every fault of a step, reason by reason
pub by_fault : (d : Depot) (s : State) (moves : List ℕ) (P : Refusal → Type 0) → (StepFault d s moves StepSize → P StepSize) → ((p : ℕ) → StepFault d s moves (UnknownMove p) → P (UnknownMove p)) → ((p : ℕ) → StepFault d s moves (RepeatedMove p) → P (RepeatedMove p)) → ((p : ℕ) → StepFault d s moves (NeedFalse p) → P (NeedFalse p)) → ((p e q h : ℕ) → StepFault d s moves (Contradictory p e q h) → P (Contradictory p e q h)) → ((n p e : ℕ) → StepFault d s moves (Disturbed n p e) → P (Disturbed n p e)) → (w : Refusal) → StepFault d s moves w → P w
by_fault d s moves P size unknown repeated lacking clashing disturbed StepSize f = size f
by_fault d s moves P size unknown repeated lacking clashing disturbed (UnknownMove p) f = unknown p f
by_fault d s moves P size unknown repeated lacking clashing disturbed (RepeatedMove p) f = repeated p f
by_fault d s moves P size unknown repeated lacking clashing disturbed (NeedFalse p) f = lacking p f
by_fault d s moves P size unknown repeated lacking clashing disturbed (Contradictory p e q h) f = clashing p e q h f
by_fault d s moves P size unknown repeated lacking clashing disturbed (Disturbed n p e) f = disturbed n p e f
by_fault d s moves P size unknown repeated lacking clashing disturbed OverLimit f = absurd f
by_fault d s moves P size unknown repeated lacking clashing disturbed BadLine f = absurd f
by_fault d s moves P size unknown repeated lacking clashing disturbed BadLetter f = absurd f
by_fault d s moves P size unknown repeated lacking clashing disturbed FieldCount f = absurd f
by_fault d s moves P size unknown repeated lacking clashing disturbed (NotItsForm field) f = absurd f
by_fault d s moves P size unknown repeated lacking clashing disturbed (NotListed field) f = absurd f
by_fault d s moves P size unknown repeated lacking clashing disturbed (Twice field) f = absurd f
by_fault d s moves P size unknown repeated lacking clashing disturbed (AlwaysTrue field) f = absurd f
by_fault d s moves P size unknown repeated lacking clashing disturbed TableFull f = absurd f
by_fault d s moves P size unknown repeated lacking clashing disturbed NoGoal f = absurd f
by_fault d s moves P size unknown repeated lacking clashing disturbed GoalFalse f = absurd f
by_fault d s moves P size unknown repeated lacking clashing disturbed UnknownNumber f = absurd f
by_fault d s moves P size unknown repeated lacking clashing disturbed BufferShort f = absurd f
by_fault d s moves P size unknown repeated lacking clashing disturbed NoMemory f = absurd f

-- a step but for disturbance
pub record Orderly (d : Depot) (s : State) (moves : List ℕ) : Type 0 where
  pub some : 0 < length moves
  pub few : length moves ≤ 8
  pub listed : (m : ℕ) → 0 < times m moves → Listed m (length d.moves)
  pub once : (m : ℕ) → times m moves ≤ 1
  pub needs : (m : ℕ) → 0 < times m moves → reads d s m 0 ≡ true
  pub agreed : contradictory d s moves ≡ false

-- no fault holds that is told before disturbance
abbrev pub NoneBefore : Depot → State → List ℕ → Type 0
NoneBefore d s moves = (w : Refusal) → number_of w < 16 → StepFault d s moves w → ⊥

-- a contradiction has two places and effects
pub record ClashAt (d : Depot) (s : State) (moves : List ℕ) : Type 0 where
  pub setting : ℕ
  pub setting_effect : ℕ
  pub strike : ℕ
  pub strike_effect : ℕ
  pub fault : StepFault d s moves (Contradictory setting setting_effect strike strike_effect)

pub clash-at : (d : Depot) (s : State) (moves : List ℕ) → contradictory d s moves ≡ true → ClashAt d s moves
clash-at d s moves h = of-setting (fired-at d s (λ e. e.settings) (λ g. list_any (λ f. d.carries g f) (fired d s (λ e. e.strikes) moves)) moves h)
  where
    of-strike : (p e : ℕ) → Listed p (length moves) → FiredAt d s (λ e. e.strikes) (λ f. list_any (λ g. d.carries g f) (settings_at d s (move_at moves p) e)) moves → ClashAt d s moves
    of-strike p e placed b = record { setting = p; setting_effect = e; strike = b.place; strike_effect = b.effect; fault = (placed, b.placed, any_swap (λ f g. d.carries g f) (strikes_at d s (move_at moves b.place) b.effect) (settings_at d s (move_at moves p) e) b.here) }

    of-setting : FiredAt d s (λ e. e.settings) (λ g. list_any (λ f. d.carries g f) (fired d s (λ e. e.strikes) moves)) moves → ClashAt d s moves
    of-setting a = of-strike a.place a.effect a.placed (fired-at d s (λ e. e.strikes) (λ f. list_any (λ g. d.carries g f) (settings_at d s (move_at moves a.place) a.effect)) moves (any_swap (λ g f. d.carries g f) (settings_at d s (move_at moves a.place) a.effect) (fired d s (λ e. e.strikes) moves) a.here))

module _ (d : Depot) (s : State) (moves : List ℕ) (never : NoneBefore d s moves) where
  pub orderly : Orderly d s moves
  orderly = record { some = some-so; few = few-so; listed = listed-so; once = once-so; needs = needs_so; agreed = agreed_so }
    where
      some-so : 0 < length moves
      some-so = elim (cases_lt 0 (length moves)) [ inl k ↦ k | inr k ↦ absurd (never StepSize (omega arith) (inl (omega arith))) ]

      few-so : length moves ≤ 8
      few-so = elim (cases_lt 8 (length moves)) [ inr k ↦ k | inl k ↦ absurd (never StepSize (omega arith) (inr k)) ]

      listed-so : (m : ℕ) → 0 < times m moves → Listed m (length d.moves)
      listed-so m there = elim (listed-or_not m (length d.moves)) [ inl k ↦ k | inr k ↦ absurd (at k (place_of m moves there)) ]
        where
          at : (Listed m (length d.moves) → ⊥) → ((p : ℕ) × Listed p (length moves) × (move_at moves p ≡ m)) → ⊥
          at unlisted (p, placed, here) = never (UnknownMove p) (omega arith) (placed, λ l. unlisted (rw here at l))

      once-so : (m : ℕ) → times m moves ≤ 1
      once-so m = elim (cases_lt 1 (times m moves)) [ inr k ↦ k | inl k ↦ absurd (at (two-places m moves k)) ]
        where
          at : ((p : ℕ) × Listed p (length moves) × ((q : ℕ) × Listed q (length moves) × (q < p) × (move_at moves q ≡ move_at moves p))) → ⊥
          at (p, placed, before) = never (RepeatedMove p) (omega arith) (placed, before)

      needs_so : (m : ℕ) → 0 < times m moves → reads d s m 0 ≡ true
      needs_so m there = elim (cases_Bool (reads d s m 0)) [ inl k ↦ k | inr k ↦ absurd (at k (place_of m moves there)) ]
        where
          at : reads d s m 0 ≡ false → ((p : ℕ) × Listed p (length moves) × (move_at moves p ≡ m)) → ⊥
          at lacking (p, placed, here) = never (NeedFalse p) (omega arith) (placed, rw here lacking)

      agreed_so : contradictory d s moves ≡ false
      agreed_so = elim (cases_Bool (contradictory d s moves)) [ inr k ↦ k | inl k ↦ absurd (at (clash-at d s moves k)) ]
        where
          at : ClashAt d s moves → ⊥
          at c = never (Contradictory c.setting c.setting_effect c.strike c.strike_effect) (omega arith) c.fault

pub accepted_from : (d : Depot) (s : State) (moves : List ℕ) → Orderly d s moves → AlikeInEveryOrder d s moves → Accepted d s moves
accepted_from d s moves o alike = record { some = o.some; few = o.few; listed = o.listed; once = o.once; needs = o.needs; agreed = o.agreed; alike = alike }

module _ (d : Depot) (law : Carrying d) (s : State) (moves : List ℕ) where
  pub accepted_unless : ((w : Refusal) → StepFault d s moves w → ⊥) → Accepted d s moves
  accepted_unless never = let o = orderly d s moves (λ w low. never w) in accepted_from d s moves o (alike-unless d s moves (λ b. by_set (order-to_set d law s moves o.agreed b)))
    where
      by_set : DisturbedBySet d s moves → ⊥
      by_set (set, place, part, b) = never (Disturbed set place part) b

  pub no_fault : Accepted d s moves → (w : Refusal) → StepFault d s moves w → ⊥
  no_fault step = by_fault d s moves (λ w. ⊥) size unknown repeated lacking clashing (λ n p e b. disturbed-unless d s moves step.alike (set-to_order d law s moves step.agreed n p e b))
    where
      size : StepFault d s moves StepSize → ⊥
      size (inl none) = omega (arith, step.some)
      size (inr many) = omega (arith, step.few)

      unknown : (p : ℕ) → StepFault d s moves (UnknownMove p) → ⊥
      unknown p f = f.1 (step.listed (move_at moves p) (times-at p moves f.0))

      repeated : (p : ℕ) → StepFault d s moves (RepeatedMove p) → ⊥
      repeated p f = omega (arith, step.once (move_at moves p), times-twice p f.1.0 moves f.0 f.1.1 f.1.2 f.1.3)

      lacking : (p : ℕ) → StepFault d s moves (NeedFalse p) → ⊥
      lacking p f = true≢false (sym (step.needs (move_at moves p) (times-at p moves f.0)) ∙ f.1)

      clashing : (p e q h : ℕ) → StepFault d s moves (Contradictory p e q h) → ⊥
      clashing p e q h f = true≢false (sym (at-fired d s (λ x. x.settings) (λ g. list_any (λ y. d.carries g y) struck) moves p e refl f.0 (any-weaker (λ g. list_any (λ y. d.carries g y) (strikes_at d s (move_at moves q) h)) (λ g. list_any (λ y. d.carries g y) struck) (λ g. at-fired d s (λ x. x.strikes) (λ y. d.carries g y) moves q h refl f.1) (settings_at d s (move_at moves p) e) f.2)) ∙ step.agreed)
        where
          struck : List ℕ
          struck = fired d s (λ x. x.strikes) moves

pub accepted_unless_fault : AcceptedUnlessFault
accepted_unless_fault d law s moves = (no_fault d law s moves, accepted_unless d law s moves)

pub one-refusal : OneRefusal
one-refusal d s moves w v p q = same_rank w v (same_rows (rank_of w) (rank_of v) (p.first v q.holds) (q.first w p.holds))
