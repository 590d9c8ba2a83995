-- Moves done one by one come out as done together, as long as none is disturbed. Assumes nothing.
use Rattle.std.proofs.Common.{◌≡◌, ℕ, zero, suc, ◌<◌, ◌≤◌, Bool, true, false, not, ◌⊎◌, List, [], ◌∷◌, ◌++◌, length, sym, refl, ap, ◌∙◌, inl, inr, append_assoc, arith}
use Rattle.std.proofs.lemmas.List.{append-nil, get_or_past}
use Rattle.std.proofs.lemmas.Bool.{cases_lt}
use Rattle.walkthroughs.specs.Depots.{Depot, State, Carrying, move_of, reads, truth_of}
use Rattle.walkthroughs.specs.Disturbance.{AlikeInEveryOrder}
use Rattle.walkthroughs.specs.Firing.{after, contradictory, one_by_one}
use Rattle.walkthroughs.specs.Lists.{times, SameMoves, Within}
use Rattle.walkthroughs.proofs.Counts.{leftover, times-append}
use Rattle.walkthroughs.proofs.Firings.{Alike, nothing, after-after, after_none, contradictory-within, one_by_one-append}

pub same_or_not : (a b : Bool) → (a ≡ b) ⊎ (a ≡ not b)
same_or_not true true = inl refl
same_or_not true false = inr refl
same_or_not false true = inr refl
same_or_not false false = inl refl

pub never_both : (a b : Bool) → a ≡ b → a ≡ not b → ⊥
never_both a b p q = let z : true ≡ false = clash-of b (sym p ∙ q) in true_is_not_false z
  where
    true_is_not_false : true ≡ false → ⊥
    true_is_not_false z = grind arith

    clash-of : (b : Bool) → b ≡ not b → true ≡ false
    clash-of true h = h
    clash-of false h = sym h

-- a part that is not there is always true
pub reads-past : (d : Depot) (s : State) (m e : ℕ) → length (move_of d m).effects < e → reads d s m e ≡ true
reads-past d s m zero h = absurd (omega arith)
reads-past d s m (suc e) h = ap (λ x. truth_of d s x.condition) (get_or_past (move_of d m).effects e nothing (omega arith))

-- two rows of tests agree up to n, or differ somewhere
agree_or_not : (f g : ℕ → Bool) (n : ℕ) → ((e : ℕ) → e < n → f e ≡ g e) ⊎ ((e : ℕ) × (e < n) × (f e ≡ not (g e)))
agree_or_not f g zero = inl (λ e h. absurd (omega arith))
agree_or_not f g (suc n) = elim (agree_or_not f g n) [ inr k ↦ inr (k.0, omega (arith, k.1), k.2) | inl k ↦ elim (same_or_not (f n) (g n)) [ inr l ↦ inr (n, omega arith, l) | inl l ↦ inl (λ e h. elim (cases_lt e n) [ inl before ↦ k e before | inr here ↦ at e l (omega arith) ]) ] ]
  where
    at : (e : ℕ) → f n ≡ g n → n ≡ e → f e ≡ g e
    at e l same = rw same at l

-- the parts of a move read alike at two states, or one of them does not
pub alike-or_not : (d : Depot) (s t : State) (m : ℕ) → Alike d s t m ⊎ ((e : ℕ) × (e ≤ length (move_of d m).effects) × (reads d t m e ≡ not (reads d s m e)))
alike-or_not d s t m = elim (agree_or_not (reads d t m) (reads d s m) (suc (length (move_of d m).effects))) [ inr k ↦ inr (k.0, omega (arith, k.1), k.2) | inl k ↦ inl (λ e. elim (cases_lt e (suc (length (move_of d m).effects))) [ inl in' ↦ k e in' | inr past ↦ reads-past d t m e (omega arith) ∙ sym (reads-past d s m e (omega arith)) ]) ]

-- moves done one by one up to the first that is disturbed
pub record Upset (d : Depot) (s : State) (moves : List ℕ) : Type 0 where
  pub done : List ℕ
  pub move : ℕ
  pub rest : List ℕ
  pub part : ℕ
  pub splits : moves ≡ done ++ move ∷ rest
  pub steady : one_by_one d s done ≡ after d s done
  pub otherwise : reads d (after d s done) move part ≡ not (reads d s move part)

module _ (d : Depot) (law : Carrying d) (s : State) where
  -- the moves b done one by one after the moves a
  walk-on : (a b : List ℕ) → one_by_one d s a ≡ after d s a → contradictory d s (a ++ b) ≡ false → (one_by_one d s (a ++ b) ≡ after d s (a ++ b)) ⊎ Upset d s (a ++ b)
  walk-on a [] steady agreed = inl (rw (append-nil a) steady)
  walk-on a (m ∷ b) steady agreed = elim (alike-or_not d s (after d s a) m) [ inr k ↦ inr (record { done = a; move = m; rest = b; part = k.0; splits = refl; steady = steady; otherwise = k.2 }) | inl k ↦ rw append_assoc at (walk-on (a ++ m ∷ []) b (more k) (rw append_assoc agreed)) ]
    where
      more : Alike d s (after d s a) m → one_by_one d s (a ++ m ∷ []) ≡ after d s (a ++ m ∷ [])
      more alike = one_by_one-append d s a (m ∷ []) ∙ ap (λ t. after d t (m ∷ [])) steady ∙ after-after d law s a (m ∷ []) (contradictory-within d s (a ++ m ∷ []) (a ++ m ∷ b) (λ x. omega (arith, times-append x a (m ∷ []), times-append x a (m ∷ b))) agreed) (alike, tt)

  pub walk : (moves : List ℕ) → contradictory d s moves ≡ false → (one_by_one d s moves ≡ after d s moves) ⊎ Upset d s moves
  walk moves agreed = walk-on [] moves (sym (after_none d s)) agreed

  -- moves that read alike in every order come out as done together, and each reads alike after any set of the others
  module _ (moves : List ℕ) (agreed : contradictory d s moves ≡ false) (alike : AlikeInEveryOrder d s moves) where
    pub steady_within : (set : List ℕ) → Within set moves → one_by_one d s set ≡ after d s set
    steady_within set w = elim (walk set (contradictory-within d s set moves w agreed)) [ inl k ↦ k | inr u ↦ absurd (never u (leftover set moves w)) ]
      where
        never : Upset d s set → ((rest : List ℕ) × SameMoves (set ++ rest) moves) → ⊥
        never u (rest, same) = never_both (reads d (after d s u.done) u.move u.part) (reads d s u.move u.part) (rw u.steady at (alike u.done u.move (u.rest ++ rest) (λ x. order x (same x)) u.part)) u.otherwise
          where
            order : (x : ℕ) → times x (set ++ rest) ≡ times x moves → times x (u.done ++ u.move ∷ (u.rest ++ rest)) ≡ times x moves
            order x h = omega (arith, h, times-append x set rest, ap (times x) u.splits, times-append x u.done (u.move ∷ u.rest), times-append x u.done (u.move ∷ (u.rest ++ rest)), times-append x u.rest rest)

    pub alike-after : (set : List ℕ) (m : ℕ) → Within (m ∷ set) moves → Alike d s (after d s set) m
    alike-after set m w e = rw (steady_within set (λ x. omega (arith, w x))) at (in_order (leftover (m ∷ set) moves w))
      where
        in_order : ((rest : List ℕ) × SameMoves (m ∷ set ++ rest) moves) → reads d (one_by_one d s set) m e ≡ reads d s m e
        in_order (rest, same) = alike set m rest (λ x. omega (arith, same x, times-append x set rest, times-append x set (m ∷ rest))) e
