-- The lowest effects that pass a test, and the contradiction that two of them make. Assumes nothing.
use Rattle.std.proofs.Common.{◌≡◌, ℕ, zero, suc, ◌+◌, ◌-◌, ◌<◌, Bool, true, false, cond, ◌||◌, List, [], ◌∷◌, map, length, get_or, Some, None, Option, sym, refl, ap, ◌∙◌, subst, inl, inr, add-one, arith}
use mathlib.Core.Path.{fun_ext}
use Rattle.std.specs.Borrow.{Bor}
use Rattle.std.specs.List.{list_any}
use Rattle.std.specs.Option.{MatchOption, option_map, option_zip}
use Rattle.std.proofs.lemmas.Bool.{cases_Bool, cases_lt, cond_both, false≢true, true≢false}
use Rattle.std.proofs.lemmas.List.{get_or-map, get_or_past, length-map}
use Rattle.sheets.specs.Faults.{NoLater}
use Rattle.sheets.specs.Numbered.{entry_at}
use Rattle.facts.specs.ShortLists.{short_list}
use Rattle.depots.specs.declared.depot.Effect.{Effect as Kept}
use Rattle.depots.specs.Tables as tables
use Rattle.depots.specs.Tables.{Effect}
use Rattle.formulas.specs.Truth.{stands_in}
use Rattle.walkthroughs.specs.declared.contradiction.Contradiction.{Contradiction}
use Rattle.walkthroughs.specs.declared.contradiction.Placed.{Placed}
use Rattle.walkthroughs.specs.declared.firing.Outcome.{Outcome}
use Rattle.walkthroughs.specs.Depots.{Depot, Listed, State, effect_of, move_of, truth_of}
use Rattle.walkthroughs.specs.Disturbance.{move_at}
use Rattle.walkthroughs.specs.Firing.{clash, fired, fired_by, fires, settings_at, strikes_at}
use Rattle.walkthroughs.specs.Kinds.{between, carries_among, listed_fact}
use Rattle.walkthroughs.specs.Outcomes.{AreOutcomes}
use Rattle.walkthroughs.specs.Searching.{Contradicts, LowestBy, PassesAt, PassesIn, PassesOf, is_carried, is_removed, row_of_contradiction, row_of_effect, seen, sets_removed, strikes_carried}
use Rattle.walkthroughs.proofs.Counts.{any-joined, any-weaker}
use Rattle.walkthroughs.proofs.Firings.{nothing}
use Rattle.walkthroughs.proofs.Mapped.{FirstGiven}
use Rattle.walkthroughs.proofs.Places.{FiredAt, any_swap, at-fired, fired-at}
use Rattle.walkthroughs.proofs.Placewise.{move_at-next}
use Rattle.walkthroughs.proofs.Searched.{lowest_by_key}
use Rattle.walkthroughs.proofs.Spread.{entry_listed}

-- an effect as a depot keeps it, to be read where there is none
pub blank : Kept ℕ
blank = record { condition = 0; settings = record { kept = short_list 0 [] }; strikes = record { kept = short_list 0 [] } }

-- the first that is given, as it is seen
first_seen : {X Y : Type 0} (n : ℕ) (v : X → Y) (Gives : ℕ → Option Y → Type 0) (r : Option X) → FirstGiven n (λ k o. Gives k (option_map v o)) r → FirstGiven n Gives (option_map v r)
first_seen n v Gives None none = none
first_seen n v Gives (Some x) found = found

-- the effects of the move at a place, as a depot lends them
module _ (d : Depot) (passes : Effect → Bool) (place m : ℕ) where
  abbrev pub At : ℕ → Kept ℕ → ℕ × ℕ × Effect → Type 0
  At k e x = (x.0 ≡ place) × (x.1 ≡ k + 1) × (x.2 ≡ tables.effect_of e) × (passes (tables.effect_of e) ≡ true)

  -- what is given of one of them
  pub given : (k : ℕ) (e : Kept ℕ) (o : Option (ℕ × ℕ × Effect)) → o ≡ cond (passes (tables.effect_of e)) (Some (place, k + 1, tables.effect_of e)) None → LowestBy row_of_effect (At k e) o
  given k e o is = subst (LowestBy row_of_effect (At k e)) (sym is) (cond_both (passes (tables.effect_of e)) (Some (place, k + 1, tables.effect_of e)) None (LowestBy row_of_effect (At k e)) (λ yes. ((refl, refl, refl, yes), λ y so. inr (sym so.0, inr (sym so.1, tt)))) (λ no x so. true≢false (sym so.3 ∙ no)))

  module _ (lent : List (Kept ℕ)) (are : map tables.effect_of lent ≡ (move_of d m).effects) where
    abbrev pub GivenAt : ℕ → Option (ℕ × ℕ × Effect) → Type 0
    GivenAt k = LowestBy row_of_effect (At k (get_or lent k blank))

    as_many : length lent ≡ length (move_of d m).effects
    as_many = sym (length-map lent tables.effect_of) ∙ ap length are

    here : (k : ℕ) → k < length lent → effect_of d m (k + 1) ≡ tables.effect_of (get_or lent k blank)
    here k below = ap (effect_of d m) (add-one k) ∙ ap (λ es. get_or es k nothing) (sym are) ∙ get_or-map tables.effect_of lent k blank nothing below

    at : (x : ℕ × ℕ × Effect) → PassesIn d place m passes x → (x.1 - 1 < length lent) × At (x.1 - 1) (get_or lent (x.1 - 1) blank) x
    at x so =
        let below : x.1 - 1 < length lent = omega (arith, as_many, so.1.0.0, so.1.0.1) in
        let next : x.1 ≡ x.1 - 1 + 1 = omega (arith, so.1.0.0) in
        let is : x.2 ≡ tables.effect_of (get_or lent (x.1 - 1) blank) = sym so.1.1 ∙ ap (effect_of d m) next ∙ here (x.1 - 1) below in
        (below, (so.0, next, is, ap passes (sym is) ∙ so.1.2))

    wanted : (k : ℕ) (x : ℕ × ℕ × Effect) → k < length lent → At k (get_or lent k blank) x → PassesIn d place m passes x × (x.1 - 1 ≡ k)
    wanted k x below so = ((so.0, ((omega (arith, so.1), omega (arith, as_many, so.1)), ap (effect_of d m) so.1 ∙ here k below ∙ sym so.2, ap passes so.2 ∙ so.3)), omega (arith, so.1))

    -- the first that passes is the lowest
    pub first_in_move : (r : Option Placed) → FirstGiven (length lent) (λ k o. GivenAt k (option_map seen o)) r → LowestBy row_of_effect (PassesIn d place m passes) (option_map seen r)
    first_in_move r first = lowest_by_key row_of_effect (PassesIn d place m passes) (λ x. x.1 - 1) (length lent) (λ k. At k (get_or lent k blank)) at wanted (λ x y a b less. inr (a.0 ∙ sym b.0, inl (omega arith))) (option_map seen r) (first_seen (length lent) seen GivenAt r first)

-- the places of a step
module _ (d : Depot) (passes : Effect → Bool) (moves : List ℕ) where
  abbrev pub GivenIn : ℕ → ℕ → Option (ℕ × ℕ × Effect) → Type 0
  GivenIn i m = LowestBy row_of_effect (PassesIn d (i + 1) m passes)

  in_move : (x : ℕ × ℕ × Effect) → PassesAt d moves passes x → (x.0 - 1 < length moves) × PassesIn d (x.0 - 1 + 1) (get_or moves (x.0 - 1) 0) passes x
  in_move x so =
      let next : x.0 ≡ x.0 - 1 + 1 = omega (arith, so.0.0) in
      (omega (arith, so.0.0, so.0.1), (next, subst (λ m. PassesOf d m passes x) (ap (move_at moves) next ∙ move_at-next moves (x.0 - 1)) so.1))

  of_step : (i : ℕ) (x : ℕ × ℕ × Effect) → i < length moves → PassesIn d (i + 1) (get_or moves i 0) passes x → PassesAt d moves passes x × (x.0 - 1 ≡ i)
  of_step i x below so = (((omega (arith, so.0), omega (arith, so.0)), subst (λ m. PassesOf d m passes x) (sym (ap (move_at moves) so.0 ∙ move_at-next moves i)) so.1), omega (arith, so.0))

  -- the first place that has one, with the first there, is the lowest
  pub first_in_step : (r : Option Placed) → FirstGiven (length moves) (λ i o. GivenIn i (get_or moves i 0) (option_map seen o)) r → LowestBy row_of_effect (PassesAt d moves passes) (option_map seen r)
  first_in_step r first = lowest_by_key row_of_effect (PassesAt d moves passes) (λ x. x.0 - 1) (length moves) (λ i. PassesIn d (i + 1) (get_or moves i 0) passes) in_move of_step (λ x y a b less. inl (omega (arith, a.0.0, b.0.0))) (option_map seen r) (first_seen (length moves) seen (λ i. GivenIn i (get_or moves i 0)) r first)

-- carrying by number, as it is told of the facts that a depot shows
module _ {F : Type 0} (carries : F → F → Bool) (r : Bool) (Told : Bor F × Bor F → Type 0) (told : (x : Bor F × Bor F) → Told x → r ≡ carries x.0.now x.1.now) where
  of_both : (o p : Option (Bor F)) → MatchOption (option_zip o p) (r ≡ false) Told → r ≡ between carries (option_map (λ x. x.now) o) (option_map (λ x. x.now) p)
  of_both None p none = none
  of_both (Some x) None none = none
  of_both (Some x) (Some y) both = told (x, y) both

  pub carries_read : (facts : List F) (f g : ℕ) (o p : Option (Bor F)) (z : Option (Bor F × Bor F)) → option_map (λ x. x.now) o ≡ entry_at facts f → option_map (λ x. x.now) p ≡ entry_at facts g → z ≡ option_zip o p → MatchOption z (r ≡ false) Told → r ≡ carries_among carries facts f g
  carries_read facts f g o p z first second is given = of_both o p (subst (λ z. MatchOption z (r ≡ false) Told) is given) ∙ ap (λ x. between carries x (option_map (λ x. x.now) p)) (first ∙ entry_listed facts f) ∙ ap (between carries (listed_fact facts f)) (second ∙ entry_listed facts g)

-- an effect that has something to fire fires it
fires-so : (d : Depot) (s : State) (list : Effect → List ℕ) (p : ℕ → Bool) (e : Effect) → list_any p (fires d s list e) ≡ true → fires d s list e ≡ list e
fires-so d s list p e h = elim (cases_Bool (truth_of d s e.condition)) [ inl k ↦ rw k refl | inr k ↦ absurd (false≢true (rw k at h)) ]

-- an effect that passes a test which one that does nothing fails is one of its move
listed_effect : (d : Depot) (m e : ℕ) (passes : Effect → Bool) → passes nothing ≡ false → passes (effect_of d m e) ≡ true → Listed e (length (move_of d m).effects)
listed_effect d m zero passes idle h = absurd (true≢false (sym h ∙ idle))
listed_effect d m (suc k) passes idle h = elim (cases_lt k (length (move_of d m).effects)) [ inl below ↦ (omega arith, omega arith) | inr past ↦ absurd (true≢false (sym h ∙ ap passes (get_or_past (move_of d m).effects k nothing past) ∙ idle)) ]

-- a contradiction, found by what the moves remove
module _ (d : Depot) (s : State) where
  removed : (g : ℕ) (moves : List ℕ) (outcomes : List Outcome) → AreOutcomes d s moves outcomes → is_removed outcomes g ≡ list_any (λ m. list_any (λ f. d.carries g f) (fired_by d s (λ x. x.strikes) m)) moves
  removed g [] outcomes none = ap (list_any (λ o. stands_in o.removes g)) none
  removed g (m ∷ moves) [] none = absurd none
  removed g (m ∷ moves) (o ∷ outcomes) are = ap (λ b. b || is_removed outcomes g) (are.0.removes g) ∙ ap (λ b. list_any (λ f. d.carries g f) (fired_by d s (λ x. x.strikes) m) || b) (removed g moves outcomes are.1)

  module _ (moves : List ℕ) (outcomes : List Outcome) (are : AreOutcomes d s moves outcomes) where
    abbrev Found : (Effect → Bool) → Option (ℕ × ℕ × Effect) → Type 0
    Found passes = LowestBy row_of_effect (PassesAt d moves passes)

    abbrev struck : List ℕ
    struck = fired d s (λ x. x.strikes) moves

    -- whether a setting carries a strike is told by what the moves remove
    sets_struck : (e : Effect) → sets_removed d s outcomes e ≡ clash d (fires d s (λ x. x.settings) e) struck
    sets_struck e = ap (λ p. list_any p (fires d s (λ x. x.settings) e)) (fun_ext (λ g. removed g moves outcomes are ∙ sym (any-joined (λ f. d.carries g f) (fired_by d s (λ x. x.strikes)) moves)))

    abbrev setting_of : Contradiction → ℕ × ℕ × Effect
    setting_of x = (x.setting_place, x.setting_effect, effect_of d (move_at moves x.setting_place) x.setting_effect)

    abbrev strike_of : Contradiction → ℕ × ℕ × Effect
    strike_of x = (x.strike_place, x.strike_effect, effect_of d (move_at moves x.strike_place) x.strike_effect)

    setting_passes : (x : Contradiction) → Contradicts d s moves x → PassesAt d moves (sets_removed d s outcomes) (setting_of x)
    setting_passes x so =
        let e = effect_of d (move_at moves x.setting_place) x.setting_effect in
        let passes : sets_removed d s outcomes e ≡ true = sets_struck e ∙ any-weaker (λ g. list_any (λ f. d.carries g f) (strikes_at d s (move_at moves x.strike_place) x.strike_effect)) (λ g. list_any (λ f. d.carries g f) struck) (λ g. at-fired d s (λ x. x.strikes) (λ f. d.carries g f) moves x.strike_place x.strike_effect refl so.1) (fires d s (λ x. x.settings) e) so.2 in
        (so.0, (listed_effect d (move_at moves x.setting_place) x.setting_effect (sets_removed d s outcomes) refl passes, refl, passes))

    strike_passes : (settings : List ℕ) (place e : ℕ) → Listed place (length moves) → list_any (is_carried d settings) (strikes_at d s (move_at moves place) e) ≡ true → PassesAt d moves (strikes_carried d s settings) (place, e, effect_of d (move_at moves place) e)
    strike_passes settings place e listed passes = (listed, (listed_effect d (move_at moves place) e (strikes_carried d s settings) refl passes, refl, passes))

    -- no setting carries a strike
    pub no_setting : (r : Option Placed) → r ≡ None → Found (sets_removed d s outcomes) (option_map seen r) → (x : Contradiction) → Contradicts d s moves x → ⊥
    no_setting r none first x so = subst (λ o. Found (sets_removed d s outcomes) (option_map seen o)) none first (setting_of x) (setting_passes x so)

    -- the lowest setting that carries a strike
    module _ (a : ℕ × ℕ × Effect) (sets : PassesAt d moves (sets_removed d s outcomes) a) where
      fired_so : fires d s (λ x. x.settings) a.2 ≡ a.2.settings
      fired_so = fires-so d s (λ x. x.settings) (is_removed outcomes) a.2 sets.1.2

      settings_are : settings_at d s (move_at moves a.0) a.1 ≡ a.2.settings
      settings_are = ap (fires d s (λ x. x.settings)) sets.1.1 ∙ fired_so

      strike-none : Found (strikes_carried d s a.2.settings) None → ⊥
      strike-none none = at_place (fired-at d s (λ x. x.strikes) (is_carried d a.2.settings) moves (any_swap (λ g f. d.carries g f) a.2.settings struck (subst (λ l. clash d l struck ≡ true) fired_so (sym (sets_struck a.2) ∙ sets.1.2))))
        where
          at_place : FiredAt d s (λ x. x.strikes) (is_carried d a.2.settings) moves → ⊥
          at_place b = none (b.place, b.effect, effect_of d (move_at moves b.place) b.effect) (strike_passes a.2.settings b.place b.effect b.placed b.here)

      module _ (b : ℕ × ℕ × Effect) (lowest : Found (strikes_carried d s a.2.settings) (Some b)) (first : (y : ℕ × ℕ × Effect) → PassesAt d moves (sets_removed d s outcomes) y → NoLater (row_of_effect a) (row_of_effect y)) where
        abbrev found : Contradiction
        found = record { setting_place = a.0; setting_effect = a.1; strike_place = b.0; strike_effect = b.1 }

        contradicts : Contradicts d s moves found
        contradicts = (sets.0, lowest.0.0, subst (λ l. clash d l (strikes_at d s (move_at moves b.0) b.1) ≡ true) (sym settings_are) (any_swap (λ f g. d.carries g f) (strikes_at d s (move_at moves b.0) b.1) a.2.settings (subst (λ e. strikes_carried d s a.2.settings e ≡ true) (sym lowest.0.1.1) lowest.0.1.2)))

        -- one with the same setting has no lower strike
        same_setting : (y : Contradiction) → Contradicts d s moves y → a.0 ≡ y.setting_place → a.1 ≡ y.setting_effect → NoLater (row_of_effect b) (row_of_effect (strike_of y))
        same_setting y so place number = lowest.1 (strike_of y) (strike_passes a.2.settings y.strike_place y.strike_effect so.1 (any_swap (λ g f. d.carries g f) a.2.settings (strikes_at d s (move_at moves y.strike_place) y.strike_effect) carried))
          where
            carried : clash d a.2.settings (strikes_at d s (move_at moves y.strike_place) y.strike_effect) ≡ true
            carried = subst (λ l. clash d l (strikes_at d s (move_at moves y.strike_place) y.strike_effect) ≡ true) (sym (ap (λ p. settings_at d s (move_at moves p) y.setting_effect) place) ∙ sym (ap (settings_at d s (move_at moves a.0)) number) ∙ settings_are) so.2

        no_later : (y : Contradiction) → Contradicts d s moves y → NoLater (row_of_contradiction found) (row_of_contradiction y)
        no_later y so = by_setting (first (setting_of y) (setting_passes y so))
          where
            by_setting : NoLater (row_of_effect a) (row_of_effect (setting_of y)) → NoLater (row_of_contradiction found) (row_of_contradiction y)
            by_setting (inl less) = inl less
            by_setting (inr (place, inl less)) = inr (place, inl less)
            by_setting (inr (place, inr (number, same))) = inr (place, inr (number, same_setting y so place number))

        -- the lowest strike that it carries makes the lowest contradiction with it
        lowest_found : LowestBy row_of_contradiction (Contradicts d s moves) (Some found)
        lowest_found = (contradicts, no_later)

    -- what both searches give
    module _ (r : Option Placed) (first : Found (sets_removed d s outcomes) (option_map seen r)) (a : Placed) (is : r ≡ Some a) (settings : List ℕ) (from : settings ≡ (tables.effect_of a.effect.now).settings) (o : Option Placed) (second : Found (strikes_carried d s settings) (option_map seen o)) where
      first-is : Found (sets_removed d s outcomes) (Some (seen a))
      first-is = subst (λ o. Found (sets_removed d s outcomes) (option_map seen o)) is first

      second-is : (p : Option Placed) → o ≡ p → Found (strikes_carried d s (seen a).2.settings) (option_map seen p)
      second-is p same = subst (λ l. Found (strikes_carried d s l) (option_map seen p)) from (subst (λ p. Found (strikes_carried d s settings) (option_map seen p)) same second)

      pub some_strike : o ≡ None → ⊥
      some_strike none = strike-none (seen a) first-is.0 (second-is None none)

      pub lowest_pair : (b : Placed) → o ≡ Some b → LowestBy row_of_contradiction (Contradicts d s moves) (Some (record { setting_place = a.place; setting_effect = a.number; strike_place = b.place; strike_effect = b.number }))
      lowest_pair b same = lowest_found (seen a) first-is.0 (seen b) (second-is (Some b) same) first-is.1
