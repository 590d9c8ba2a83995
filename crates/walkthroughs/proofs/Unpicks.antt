-- An accepted step can be unpicked, and so can a row of accepted steps. Assumes nothing.
use Rattle.std.proofs.Common.{◌≡◌, ℕ, ◌<◌, List, [], ◌∷◌, ◌++◌, length, sym, ap, ◌∙◌, arith}
use Rattle.std.specs.List.{AllByRecursion}
use Rattle.walkthroughs.specs.Depots.{Depot, State, Carrying, reads}
use Rattle.walkthroughs.specs.Firing.{after, one_by_one}
use Rattle.walkthroughs.specs.Laws.{UnpickingsPass}
use Rattle.walkthroughs.specs.Lists.{times, SameMoves, Within}
use Rattle.walkthroughs.specs.Steps.{Accepted}
use Rattle.walkthroughs.specs.Unpickings.{Passes, moves_of}
use Rattle.walkthroughs.proofs.Counts.{all-from_times, length-within, one-within, times-append}
use Rattle.walkthroughs.proofs.Firings.{Alike, after-after, after_none, after-order, contradictory-alike, contradictory-within, one_by_one-append}
use Rattle.walkthroughs.proofs.Walking.{alike-after, steady_within}

module _ (d : Depot) (law : Carrying d) (s : State) (moves : List ℕ) (step : Accepted d s moves) where
  -- a move of the step reads alike after any others of it
  among : (a : List ℕ) (m : ℕ) → Within (m ∷ a) moves → Alike d s (after d s a) m
  among = alike-after d law s moves step.agreed step.alike

  -- a move of a group after the moves before it
  beside : (a g : List ℕ) (m : ℕ) → 0 < times m g → Within (a ++ g) moves → Within (m ∷ a) moves
  beside a g m there w x = omega (arith, w x, times-append x a g, one-within x m g there)

  group_alike : (a g : List ℕ) → Within (a ++ g) moves → AllByRecursion (Alike d s (after d s a)) g
  group_alike a g w = all-from_times (Alike d s (after d s a)) g (λ m there. among a m (beside a g m there w))

  front : (a g : List ℕ) → Within (a ++ g) moves → Within a moves
  front a g w x = omega (arith, w x, times-append x a g)

  back : (a g : List ℕ) → Within (a ++ g) moves → Within g moves
  back a g w x = omega (arith, w x, times-append x a g)

  -- a group of its moves is accepted after others of them
  accepted_part : (a g : List ℕ) → 0 < length g → Within (a ++ g) moves → Accepted d (after d s a) g
  accepted_part a g some w =
      record { some = some; few = omega (arith, length-within g moves (back a g w), step.few); listed = λ m there. step.listed m (omega (arith, back a g w m)); once = λ m. omega (arith, back a g w m, step.once m); needs = λ m there. among a m (beside a g m there w) 0 ∙ step.needs m (omega (arith, back a g w m)); agreed = contradictory-alike d s (after d s a) g (group_alike a g w) ∙ contradictory-within d s g moves (back a g w) step.agreed; alike = alike-so }
    where
      one_way : (done : List ℕ) → Within (a ++ done) moves → one_by_one d (after d s a) done ≡ after d s (a ++ done)
      one_way done v = ap (λ t. one_by_one d t done) (sym (steady_within d law s moves step.agreed step.alike a (front a g w))) ∙ sym (one_by_one-append d s a done) ∙ steady_within d law s moves step.agreed step.alike (a ++ done) v

      alike-so : (done : List ℕ) (m : ℕ) (rest : List ℕ) → SameMoves (done ++ m ∷ rest) g → (e : ℕ) → reads d (one_by_one d (after d s a) done) m e ≡ reads d (after d s a) m e
      alike-so done m rest order e =
          rw (one_way done (λ x. omega (arith, w x, order x, times-append x a g, times-append x a done, times-append x done (m ∷ rest)))) (among (a ++ done) m (λ x. omega (arith, w x, order x, times-append x a g, times-append x a done, times-append x done (m ∷ rest))) e ∙ sym (among a m (λ x. omega (arith, w x, order x, times-append x a g, times-append x done (m ∷ rest))) e))

  -- its groups after the moves a
  unpick : (a : List ℕ) (groups : List (List ℕ)) → AllByRecursion (λ g. 0 < length g) groups → SameMoves (a ++ moves_of groups) moves → Passes d (after d s a) groups (after d s moves)
  unpick a [] some same = after-order d s moves a (λ x. omega (arith, same x, times-append x a []))
  unpick a (g ∷ groups) some same = (accepted_part a g some.0 so_far, rw (after-after d law s a g (contradictory-within d s (a ++ g) moves so_far step.agreed) (group_alike a g so_far)) (unpick (a ++ g) groups some.1 (λ x. omega (arith, same x, times-append x a (g ++ moves_of groups), times-append x g (moves_of groups), times-append x (a ++ g) (moves_of groups), times-append x a g))))
    where
      so_far : Within (a ++ g) moves
      so_far x = omega (arith, same x, times-append x a (g ++ moves_of groups), times-append x g (moves_of groups), times-append x a g)

  pub unpicked_step : (groups : List (List ℕ)) → AllByRecursion (λ g. 0 < length g) groups → SameMoves (moves_of groups) moves → Passes d s groups (after d s moves)
  unpicked_step groups some same = rw (after_none d s) at (unpick [] groups some same)

-- steps after steps
passes_append : (d : Depot) (s t u : State) (a b : List (List ℕ)) → Passes d s a t → Passes d t b u → Passes d s (a ++ b) u
passes_append d s t u [] b p q = rw p at q
passes_append d s t u (g ∷ a) b p q = (p.0, passes_append d (after d s g) t u a b p.1 q)

pub unpickings_pass : UnpickingsPass
unpickings_pass d law s t [] unpicked p us = rw us p
unpickings_pass d law s t (moves ∷ steps) unpicked p (groups, later, whole, some, each, same, rest) = rw whole (passes_append d s (after d s moves) t groups later (unpicked_step d law s moves p.0 groups each same) (unpickings_pass d law (after d s moves) t steps later p.1 rest))
