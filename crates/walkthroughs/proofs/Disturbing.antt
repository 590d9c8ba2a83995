-- Disturbance by orders and by sets. Assumes nothing.
use Rattle.std.proofs.Common.{◌≡◌, ℕ, zero, suc, ◌-◌, ◌^◌, ◌≤◌, false, not, List, ◌∷◌, ◌++◌, length, get_or, ap, inl, inr, arith}
use Rattle.walkthroughs.specs.Depots.{Depot, State, Carrying, reads}
use Rattle.walkthroughs.specs.Disturbance.{AlikeInEveryOrder, DisturbedByOrder, DisturbedBySet, SetDisturbs}
use Rattle.walkthroughs.specs.Firing.{after, contradictory, one_by_one}
use Rattle.walkthroughs.specs.Laws.{OrdersAndSetsAgree}
use Rattle.walkthroughs.specs.Lists.{times, SameMoves, Within}
use Rattle.walkthroughs.specs.Sets.{chosen}
use Rattle.walkthroughs.proofs.Counts.{leftover, times-append}
use Rattle.walkthroughs.proofs.Firings.{after-order, contradictory-within}
use Rattle.walkthroughs.proofs.Subsets.{Beside, chosen-all, chosen-within, number_beside, outside-within}
use Rattle.walkthroughs.proofs.Walking.{Upset, never_both, same_or_not, walk}

-- some moves, done together, make a part of another read otherwise
pub record Upsetting (d : Depot) (s : State) (moves : List ℕ) : Type 0 where
  pub set : List ℕ
  pub move : ℕ
  pub part : ℕ
  pub within : Within (move ∷ set) moves
  pub otherwise : reads d (after d s set) move part ≡ not (reads d s move part)

-- the set of places that a list of moves is
pub beside-disturbs : (d : Depot) (s : State) (moves : List ℕ) (n : ℕ) (set : List ℕ) (m e : ℕ) (b : Beside moves n set m) → n ≤ 2 ^ length moves → reads d (after d s set) m e ≡ not (reads d s m e) → SetDisturbs d s moves b.number (suc b.place) e
beside-disturbs d s moves n set m e b most otherwise =
    record { known = omega (arith, b.low); placed = (omega arith, omega (arith, b.placed)); outside = b.outside; otherwise = rw (b.here, after-order d s (chosen b.number moves) set b.same) otherwise }

module _ (d : Depot) (law : Carrying d) (s : State) (moves : List ℕ) (agreed : contradictory d s moves ≡ false) where
  pub order-upsets : DisturbedByOrder d s moves → Upsetting d s moves
  order-upsets o = elim (walk d law s o.done (contradictory-within d s o.done moves (λ x. omega (arith, o.order x, times-append x o.done (o.move ∷ o.rest))) agreed)) [ inl steady ↦ record { set = o.done; move = o.move; part = o.part; within = λ x. omega (arith, o.order x, times-append x o.done (o.move ∷ o.rest)); otherwise = rw steady at o.otherwise } | inr u ↦ earlier u ]
    where
      earlier : Upset d s o.done → Upsetting d s moves
      earlier u = record { set = u.done; move = u.move; part = u.part; within = λ x. omega (arith, o.order x, times-append x o.done (o.move ∷ o.rest), ap (times x) u.splits, times-append x u.done (u.move ∷ u.rest)); otherwise = u.otherwise }

  pub order-to_set : DisturbedByOrder d s moves → DisturbedBySet d s moves
  order-to_set o = numbered-so (order-upsets o)
    where
      of-all : Upsetting d s moves → (2 ^ length moves - 1 ≤ 2 ^ length moves) → (b : Upsetting d s moves) → Beside moves (2 ^ length moves - 1) b.set b.move → DisturbedBySet d s moves
      of-all u most v b = (b.number, suc b.place, v.part, beside-disturbs d s moves (2 ^ length moves - 1) v.set v.move v.part b most v.otherwise)

      numbered-so : Upsetting d s moves → DisturbedBySet d s moves
      numbered-so u = of-all u (omega arith) u (number_beside moves (2 ^ length moves - 1) u.set u.move (rw (chosen-all moves) u.within))

  pub set-to_order : (n p e : ℕ) → SetDisturbs d s moves n p e → DisturbedByOrder d s moves
  set-to_order n zero e b = absurd (omega (arith, b.placed.0))
  set-to_order n (suc k) e b = with_rest (leftover (get_or moves k 0 ∷ chosen n moves) moves (outside-within n k moves (omega (arith, b.placed.1)) b.outside))
    where
      with_rest : ((rest : List ℕ) × SameMoves (get_or moves k 0 ∷ chosen n moves ++ rest) moves) → DisturbedByOrder d s moves
      with_rest (rest, same) = elim (walk d law s (chosen n moves) (contradictory-within d s (chosen n moves) moves (chosen-within n moves) agreed)) [ inl steady ↦ record { done = chosen n moves; move = get_or moves k 0; rest = rest; part = e; order = λ x. omega (arith, same x, times-append x (chosen n moves) rest, times-append x (chosen n moves) (get_or moves k 0 ∷ rest)); otherwise = rw steady b.otherwise } | inr u ↦ earlier u ]
        where
          earlier : Upset d s (chosen n moves) → DisturbedByOrder d s moves
          earlier u = record { done = u.done; move = u.move; rest = u.rest ++ get_or moves k 0 ∷ rest; part = u.part; order = λ x. omega (arith, same x, times-append x (chosen n moves) rest, ap (times x) u.splits, times-append x u.done (u.move ∷ u.rest), times-append x u.done (u.move ∷ (u.rest ++ get_or moves k 0 ∷ rest)), times-append x u.rest (get_or moves k 0 ∷ rest)); otherwise = rw u.steady u.otherwise }

pub alike-unless : (d : Depot) (s : State) (moves : List ℕ) → (DisturbedByOrder d s moves → ⊥) → AlikeInEveryOrder d s moves
alike-unless d s moves calm done m rest order e = elim (same_or_not (reads d (one_by_one d s done) m e) (reads d s m e)) [ inl same ↦ same | inr other ↦ absurd (calm (record { done = done; move = m; rest = rest; part = e; order = order; otherwise = other })) ]

pub disturbed-unless : (d : Depot) (s : State) (moves : List ℕ) → AlikeInEveryOrder d s moves → DisturbedByOrder d s moves → ⊥
disturbed-unless d s moves alike o = never_both (reads d (one_by_one d s o.done) o.move o.part) (reads d s o.move o.part) (alike o.done o.move o.rest o.order o.part) o.otherwise

pub orders_and_sets : OrdersAndSetsAgree
orders_and_sets d law s moves agreed = ((order-to_set d law s moves agreed, λ b. set-to_order d law s moves agreed b.0 b.1 b.2 b.3), (disturbed-unless d s moves, alike-unless d s moves))
