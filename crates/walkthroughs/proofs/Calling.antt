-- What a walkthrough holds after a call. Assumes nothing.
use Rattle.std.proofs.Common.{◌≡◌, ℕ, Bool, true, false, cond, ◌&&◌, nat_le, List, length, refl, sym, ap, ◌∙◌, subst, arith}
use mathlib.Core.Path.{fun_ext}
use Rattle.std.proofs.lemmas.Bool.Decides.{nat_tests}
use Rattle.depots.specs.Tables.{Tables}
use Rattle.walkthroughs.specs.Depots.{Carrying, Depot, Listed, State}
use Rattle.walkthroughs.specs.Firing.{after, start_of}
use Rattle.walkthroughs.specs.Marks.{moved_to, none_stand}
use Rattle.walkthroughs.specs.Ruled.{ruled}
use Rattle.walkthroughs.specs.Steps.{Accepted, changed}
use Rattle.walkthroughs.proofs.Among.{carrying_among}
use Rattle.walkthroughs.proofs.Firings.{unlisted-start, unlisted-stay}

-- facts moved to a state that differs at listed ones alone
pub moved_all : (k : ℕ) (s t : State) → ((f : ℕ) → (Listed f k → ⊥) → t f ≡ s f) → moved_to k s t ≡ t
moved_all k s t alike = fun_ext (λ f. pick (nat_le 1 f && nat_le f k) (t f) (s f) (λ out. alike f (λ l. beyond f l out)))
  where
    pick : (b x y : Bool) → (b ≡ false → x ≡ y) → cond b x y ≡ x
    pick true x y same = refl
    pick false x y same = sym (same refl)

    beyond : (f : ℕ) → Listed f k → (nat_le 1 f && nat_le f k) ≡ false → ⊥
    beyond f l out = grind (arith, nat_tests)

-- for a depot that was read, whose kind shows the laws of carrying
module _ {F : Type 0} (carries : F → F → Bool) (itself : (a : F) → carries a a ≡ true) (onward : (a b c : F) → carries a b ≡ true → carries b c ≡ true → carries a c ≡ true) (t : Tables F) where
  abbrev d : Depot
  d = ruled carries t

  pub law : Carrying d
  law = carrying_among carries t.facts itself onward d refl refl

  -- marks that were none, turned to the start
  pub at_start : (k : ℕ) (s u v : State) → k ≡ length t.facts → s ≡ none_stand → u ≡ start_of d → v ≡ moved_to k s u → v ≡ start_of d
  at_start k s u v count none start moved = moved ∙ rw (count, none, start) (moved_all (length t.facts) none_stand (start_of d) (unlisted-start d law))

  -- marks turned to the facts after an accepted step, which was judged at their row
  pub stepped : (s u old new : State) (k n : ℕ) (moves : List ℕ) → s ≡ old → Accepted d s moves × (u ≡ after d s moves) → k ≡ length t.facts → (new ≡ moved_to k old u) × (n ≡ changed k old u) → Accepted d old moves × (n ≡ changed d.facts old (after d old moves)) × (new ≡ after d old moves)
  stepped s u old new k n moves same judged count turned = by_row (subst (λ s. Accepted d s moves × (u ≡ after d s moves)) same judged)
    where
      by_row : Accepted d old moves × (u ≡ after d old moves) → Accepted d old moves × (n ≡ changed d.facts old (after d old moves)) × (new ≡ after d old moves)
      by_row (can, is) = (can, turned.1 ∙ ap (λ k. changed k old u) count ∙ ap (changed (length t.facts) old) is, turned.0 ∙ rw (count, is) (moved_all (length t.facts) old (after d old moves) (unlisted-stay d law old moves)))
