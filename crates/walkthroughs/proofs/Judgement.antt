-- A step as it is judged: reason by reason, from the lowest number on. Assumes nothing.
use Rattle.std.proofs.Common.{◌≡◌, ℕ, suc, Bool, ◌+◌, ◌-◌, ◌<◌, ◌≤◌, List, [], ◌∷◌, ◌++◌, length, get_or, Some, None, Option, sym, refl, ap, ◌∙◌, subst, inl, inr, arith}
use Rattle.std.proofs.lemmas.Bool.{cases_lt, cases_order}
use Rattle.depots.specs.Tables.{Tables}
use Rattle.depots.specs.Tables as tables
use Rattle.sheets.specs.declared.refusals.Refusal.{Refusal}
use Rattle.sheets.specs.declared.refusals.Refusal.TheVariants.{StepSize, UnknownMove, RepeatedMove, NeedFalse, Contradictory, Disturbed}
use Rattle.sheets.specs.Faults.{NoLater}
use Rattle.sheets.specs.Refusals.{number_of, details_of, rank_of}
use Rattle.walkthroughs.specs.Depots.{Depot, State, Carrying}
use Rattle.walkthroughs.specs.Ruled.{ruled, with_effects}
use Rattle.walkthroughs.specs.Searching.{LowestBy, one, row_of, row_of_contradiction}
use Rattle.walkthroughs.specs.Steps.{Accepted, StepFault, StepRefused, UnknownAt}
use Rattle.walkthroughs.proofs.Faulty.{accepted_unless, by_fault}

-- the reasons of a step in the order of their numbers, with the details a to d
abbrev reasons : ℕ → ℕ → ℕ → ℕ → List Refusal
reasons a b c d = StepSize ∷ UnknownMove a ∷ RepeatedMove a ∷ NeedFalse a ∷ Contradictory a b c d ∷ Disturbed a b c ∷ []

-- the refusal with a number and details
abbrev told : ℕ → List ℕ → Refusal
told n r = get_or (reasons (get_or r 0 0) (get_or r 1 0) (get_or r 2 0) (get_or r 3 0)) (n - 11) StepSize

-- a reason: its number, its refusal and the row that ranks one before another
pub record Reason {X : Type 0} (row : X → List ℕ) (make : X → Refusal) (n : ℕ) : Type 0 where
  pub known : (r : List ℕ) → (x : X) × (told n r ≡ make x)
  pub numbered : (x : X) → number_of (make x) ≡ n
  pub later : (x y : X) → NoLater (row x) (row y) → NoLater (rank_of (make x)) (rank_of (make y))

-- rows of one length, with the same numbers behind each
padded : (xs ys zs : List ℕ) → length xs ≡ length ys → NoLater zs zs → NoLater xs ys → NoLater (xs ++ zs) (ys ++ zs)
padded [] [] zs long same h = same
padded [] (y ∷ ys) zs long same h = absurd (omega arith)
padded (x ∷ xs) [] zs long same h = absurd h
padded (x ∷ xs) (y ∷ ys) zs long same (inl less) = inl less
padded (x ∷ xs) (y ∷ ys) zs long same (inr (e, h)) = inr (e, padded xs ys zs (omega arith) same h)

place_later : (x y : ℕ) → NoLater (one x) (one y) → NoLater (x ∷ 0 ∷ 0 ∷ 0 ∷ []) (y ∷ 0 ∷ 0 ∷ 0 ∷ [])
place_later x y h = padded (one x) (one y) (0 ∷ 0 ∷ 0 ∷ []) refl (inr (refl, inr (refl, inr (refl, tt)))) h

size : Reason (λ (x : Unit {0}). []) (λ x. StepSize) 11
size = record { known = λ r. (tt, refl); numbered = λ x. refl; later = λ x y h. inr (refl, inr (refl, inr (refl, inr (refl, inr (refl, tt))))) }

pub unknown : Reason one UnknownMove 12
unknown = record { known = λ r. (get_or r 0 0, refl); numbered = λ x. refl; later = λ x y h. inr (refl, place_later x y h) }

pub repeated : Reason one RepeatedMove 13
repeated = record { known = λ r. (get_or r 0 0, refl); numbered = λ x. refl; later = λ x y h. inr (refl, place_later x y h) }

pub lacking : Reason one NeedFalse 14
lacking = record { known = λ r. (get_or r 0 0, refl); numbered = λ x. refl; later = λ x y h. inr (refl, place_later x y h) }

pub contradicting : Reason row_of_contradiction (λ x. Contradictory x.setting_place x.setting_effect x.strike_place x.strike_effect) 15
contradicting = record { known = λ r. (record { setting_place = get_or r 0 0; setting_effect = get_or r 1 0; strike_place = get_or r 2 0; strike_effect = get_or r 3 0 }, refl); numbered = λ x. refl; later = λ x y h. inr (refl, h) }

pub disturbing : Reason row_of (λ x. Disturbed x.set x.place x.part) 16
disturbing = record { known = λ r. (record { set = get_or r 0 0; place = get_or r 1 0; part = get_or r 2 0 }, refl); numbered = λ x. refl; later = λ x y h. inr (refl, padded (row_of x) (row_of y) (0 ∷ []) refl (inr (refl, tt)) h) }

module _ (d : Depot) (s : State) (moves : List ℕ) where
  -- nothing is wrong that has a number below one
  abbrev pub NoneBelow : ℕ → Type 0
  NoneBelow n = (w : Refusal) → number_of w < n → StepFault d s moves w → ⊥

  -- what is wrong with a step has one of its reasons
  record OfStep (w : Refusal) : Type 0 where
    low : 11 ≤ number_of w
    high : number_of w < 17
    is : w ≡ told (number_of w) (details_of w)

  of-step : (w : Refusal) → StepFault d s moves w → OfStep w
  of-step = by_fault d s moves OfStep (λ f. record { low = omega arith; high = omega arith; is = refl }) (λ p f. record { low = omega arith; high = omega arith; is = refl }) (λ p f. record { low = omega arith; high = omega arith; is = refl }) (λ p f. record { low = omega arith; high = omega arith; is = refl }) (λ p e q h f. record { low = omega arith; high = omega arith; is = refl }) (λ n p e f. record { low = omega arith; high = omega arith; is = refl })

  pub none_first : NoneBelow 11
  none_first w low f = omega (arith, (of-step w f).low)

  -- a search for the lowest fault of a reason, where none of a lower number was found
  module _ {X : Type 0} {row : X → List ℕ} {make : X → Refusal} {n : ℕ} (reason : Reason row make n) (none : NoneBelow n) where
    made : (w : Refusal) → StepFault d s moves w → number_of w ≡ n → (x : X) × (w ≡ make x)
    made w f same = let k = reason.known (details_of w) in (k.0, (of-step w f).is ∙ ap (λ m. told m (details_of w)) same ∙ k.1)

    pub refused : (x : X) → LowestBy row (λ y. StepFault d s moves (make y)) (Some x) → StepRefused d s moves (make x)
    refused x low = record { holds = low.0; first = λ v f. elim (cases_order (number_of v) n) [ inl same ↦ here v f (made v f same) | inr o ↦ elim o [ inl less ↦ absurd (none v less f) | inr more ↦ inl (omega (arith, reason.numbered x)) ] ] }
      where
        here : (v : Refusal) → StepFault d s moves v → ((y : X) × (v ≡ make y)) → NoLater (rank_of (make x)) (rank_of v)
        here v f (y, is) = subst (λ u. NoLater (rank_of (make x)) (rank_of u)) (sym is) (reason.later x y (low.1 y (subst (StepFault d s moves) is f)))

    pub none_after : LowestBy row (λ y. StepFault d s moves (make y)) None → NoneBelow (n + 1)
    none_after nothing w low f = elim (cases_lt (number_of w) n) [ inl less ↦ none w less f | inr so ↦ here (made w f (omega arith)) ]
      where
        here : ((x : X) × (w ≡ make x)) → ⊥
        here (x, is) = nothing x (subst (StepFault d s moves) is f)

  -- a step of 1 to 8 moves
  pub none_sized : (1 ≤ length moves) × (length moves ≤ 8) → NoneBelow 12
  none_sized sized = none_after size none_first (λ x f. elim f [ inl k ↦ omega (arith, sized.0) | inr k ↦ omega (arith, sized.1) ])

  pub refused_size : ((1 ≤ length moves) × (length moves ≤ 8) → ⊥) → StepRefused d s moves StepSize
  refused_size apart = refused size none_first tt (elim (cases_lt 8 (length moves)) [ inl many ↦ inr many | inr few ↦ elim (cases_lt 0 (length moves)) [ inl some ↦ absurd (apart (some, few)) | inr none ↦ inl (omega arith) ] ], λ y f. tt)

  pub few_moves : NoneBelow 15 → length moves ≤ 8
  few_moves none = elim (cases_lt 8 (length moves)) [ inl many ↦ absurd (none StepSize (omega arith) (inr many)) | inr few ↦ few ]

  pub accepted_after : Carrying d → NoneBelow 17 → Accepted d s moves
  accepted_after law none = accepted_unless d law s moves (λ w f. none w (of-step w f).high f)

-- the moves that a depot lists, as it counts them
module _ {F : Type 0} (carries : F → F → Bool) (t : Tables F) (s : State) (moves : List ℕ) (count : ℕ) (is : count ≡ length t.moves) where
  counted : length t.moves ≡ length (ruled carries t).moves
  counted = by_moves t.moves
    where
      by_moves : (moves : List tables.Move) → length moves ≡ length (with_effects moves t.effects)
      by_moves [] = refl
      by_moves (v ∷ moves) = ap suc (by_moves moves)

  pub unknown_ruled : (r : Option ℕ) → LowestBy one (UnknownAt count moves) r → LowestBy one (UnknownAt (length (ruled carries t).moves) moves) r
  unknown_ruled r = subst (λ n. LowestBy one (UnknownAt n moves) r) (is ∙ counted)

  pub none_unknown : (1 ≤ length moves) × (length moves ≤ 8) → LowestBy one (UnknownAt count moves) None → NoneBelow (ruled carries t) s moves 13
  none_unknown sized nothing = none_after (ruled carries t) s moves unknown (none_sized (ruled carries t) s moves sized) (unknown_ruled None nothing)
