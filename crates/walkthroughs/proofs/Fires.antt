-- What the effects of a move do, one after the other. Assumes nothing.
use Rattle.std.proofs.Common.{◌≡◌, ℕ, ◌+◌, ◌<◌, ◌≤◌, Bool, false, List, map, length, get_or, sym, ap, ◌∙◌}
use Rattle.depots.specs.declared.depot.Effect.{Effect as Kept}
use Rattle.depots.specs.Tables.{Effect, effect_of}
use Rattle.formulas.specs.Truth.{stands_in}
use Rattle.walkthroughs.specs.declared.firing.Outcome.{Outcome}
use Rattle.walkthroughs.specs.Depots.{Depot, State, move_of}
use Rattle.std.specs.List.{list_any}
use Rattle.walkthroughs.specs.Firing.{fires, fired_by}
use Rattle.walkthroughs.specs.Outcomes.{IsOutcome, WithEffect}
use Rattle.walkthroughs.proofs.Counts.{any-joined}
use Rattle.walkthroughs.proofs.Spread.{Spreading, any-map, spread_all, spread_more}

module _ (d : Depot) (s : State) where
  -- the facts that an effect adds or removes, if it fires
  abbrev adding : ℕ → Kept ℕ → Bool
  adding f e = list_any (λ g. d.carries g f) (fires d s (λ x. x.settings) (effect_of e))

  abbrev removing : ℕ → Kept ℕ → Bool
  removing f e = list_any (λ g. d.carries f g) (fires d s (λ x. x.strikes) (effect_of e))

  -- what the first i of some effects do
  pub record FiredSo (effects : List (Kept ℕ)) (o : Outcome) (i : ℕ) : Type 0 where
    pub adds : (f : ℕ) → Spreading (adding f) effects false (stands_in o.adds f) i
    pub removes : (f : ℕ) → Spreading (removing f) effects false (stands_in o.removes f) i

  pub fired-more : (effects : List (Kept ℕ)) (o p : Outcome) (i : ℕ) (e : Kept ℕ) → i < length effects → e ≡ get_or effects i e → FiredSo effects o i → WithEffect d s (effect_of e) o p → FiredSo effects p (i + 1)
  fired-more effects o p i e within is sofar more = record {
    adds = λ f. spread_more (adding f) effects false (stands_in o.adds f) (stands_in p.adds f) i e within is (sofar.adds f) (more.adds f);
    removes = λ f. spread_more (removing f) effects false (stands_in o.removes f) (stands_in p.removes f) i e within is (sofar.removes f) (more.removes f);
  }

  -- the fired effects of a move, by those that a depot lends
  by_move : (p : ℕ → Bool) (list : Effect → List ℕ) (m : ℕ) (effects : List (Kept ℕ)) → map effect_of effects ≡ (move_of d m).effects → list_any (λ e. list_any p (fires d s list (effect_of e))) effects ≡ list_any p (fired_by d s list m)
  unfolding fired_by
  by_move p list m effects are = any-map (λ e. list_any p (fires d s list e)) effect_of effects ∙ ap (list_any (λ e. list_any p (fires d s list e))) are ∙ sym (any-joined p (fires d s list) (move_of d m).effects)

  pub fired-all : (m : ℕ) (effects : List (Kept ℕ)) (o : Outcome) (i : ℕ) → length effects ≤ i → map effect_of effects ≡ (move_of d m).effects → FiredSo effects o i → IsOutcome d s m o
  fired-all m effects o i end are sofar = record {
    adds = λ f. spread_all (adding f) effects false (stands_in o.adds f) i end (sofar.adds f) ∙ by_move (λ g. d.carries g f) (λ x. x.settings) m effects are;
    removes = λ f. spread_all (removing f) effects false (stands_in o.removes f) i end (sofar.removes f) ∙ by_move (λ g. d.carries f g) (λ x. x.strikes) m effects are;
  }
