-- A look for a watcher that adds nothing to the one before it. Assumes nothing.
use Rattle.std.proofs.Common.{◌≡◌, ◌<◌, ◌≤◌, Bool, ◌||◌, ◌⊎◌, List, [], ◌∷◌, ◌++◌, length, get_or, take, drop, Decides, sym, refl, ap, subst, ◌∙◌, inl, inr, arith, length-append}
use Rattle.std.specs.List.{list_any}
use Rattle.std.specs.Slice.Iter.{windows_rest, windows_size}
use Rattle.std.specs.Slice.ArrayWindows.{array_windows_steps}
use Rattle.std.specs.declared.slice.ArrayWindows.{ArrayWindows}
use Rattle.std.proofs.lemmas.Iterator.{YieldsList}
use Rattle.std.proofs.lemmas.Iterator.Splits.{YieldsList-from_shown_while}
use Rattle.std.proofs.lemmas.Bool.{false≢true}
use Rattle.std.proofs.lemmas.Bool.Decides.{Decides-like, Decides-or}
use Rattle.facts.specs.declared.sighted.Watcher.{Watcher}
use Rattle.facts.specs.declared.sighted.Watcher.TheVariants.{All, Zone}
use Rattle.facts.specs.Watchers.{same_watcher, is_every, idle, Idle}
use Rattle.facts.specs.Carrying.{same_watcher-decides}

-- each watcher and the one after it
abbrev pub pairs : List Watcher → List (List Watcher)
pairs [] = []
pairs (v ∷ []) = []
pairs (v ∷ w ∷ ws) = (v ∷ w ∷ []) ∷ pairs (w ∷ ws)

-- the second of two adds nothing
abbrev pub adds_none : List Watcher → Bool
adds_none two = is_every (get_or two 1 All) || same_watcher (get_or two 0 All) (get_or two 1 All)

pub any_pair : (ws : List Watcher) → list_any adds_none (pairs ws) ≡ idle ws
any_pair [] = refl
any_pair (v ∷ []) = refl
any_pair (v ∷ w ∷ ws) = ap (λ t. (is_every w || same_watcher v w) || t) (any_pair (w ∷ ws))

no_pair : (ws : List Watcher) → length ws < 2 → length (pairs ws) ≡ 0
no_pair [] short = refl
no_pair (v ∷ []) short = refl
no_pair (v ∷ w ∷ ws) short = absurd (omega arith)

first_pair : (ws : List Watcher) → 2 ≤ length ws → pairs ws ≡ take 2 ws ∷ pairs (drop 1 ws)
first_pair [] long = absurd (omega arith)
first_pair (v ∷ []) long = absurd (omega arith)
first_pair (v ∷ w ∷ ws) long = refl

-- the windows of two are the pairs
pub windows_of_two : {s : ArrayWindows Watcher 2} (ws : List Watcher) → windows_rest s.parts ≡ ws → windows_size s.parts ≡ 2 → YieldsList array_windows_steps (λ p. p.now) s (pairs ws)
windows_of_two {s} ws whole two =
    subst (YieldsList array_windows_steps (λ p. p.now) s) (ap pairs whole) (YieldsList-from_shown_while array_windows_steps (λ p. p.now) (λ t. pairs (windows_rest t.parts)) (λ t. windows_size t.parts ≡ 2)
    (λ t u h k. no_pair (windows_rest t.parts) (omega (arith, h, k.1.0)))
    (λ t x u h k. (k.0 ∙ h, first_pair (windows_rest t.parts) (omega (arith, h, k.1.0)) ∙ ap (λ n. take n (windows_rest t.parts) ∷ pairs (drop 1 (windows_rest t.parts))) (sym h) ∙ ap (λ l. l ∷ pairs (drop 1 (windows_rest t.parts))) (sym k.1.1) ∙ ap (λ l. x.now ∷ pairs l) (sym k.1.2)))
    s two)

too_short : (ws front back : List Watcher) (v w : Watcher) → ws ≡ front ++ v ∷ w ∷ back → length ws < 2 → ⊥
too_short ws front back v w e few = omega (arith, ap length e, length-append front (v ∷ w ∷ back))

is_every-decides : (w : Watcher) → Decides (is_every w) (w ≡ All)
is_every-decides All = (λ _. refl, λ _. refl)
is_every-decides (Zone z) = (λ e. absurd (false≢true e), λ e. cc)

-- the test decides the same in words
pub idle-decides : (ws : List Watcher) → Decides (idle ws) (Idle ws)
idle-decides [] = (λ e. absurd (false≢true e), λ h. absurd (too_short [] h.0 h.1 h.2 h.3 h.4 (omega arith)))
idle-decides (v ∷ []) =
    (λ e. absurd (false≢true e), λ h. absurd (too_short (v ∷ []) h.0 h.1 h.2 h.3 h.4 (omega arith)))
idle-decides (v ∷ w ∷ ws) =
    Decides-like _ more less (Decides-or _ _ (Decides-or _ _ (is_every-decides w) (same_watcher-decides v w)) (idle-decides (w ∷ ws)))
  where
    more : ((w ≡ All) ⊎ (v ≡ w)) ⊎ Idle (w ∷ ws) → Idle (v ∷ w ∷ ws)
    more (inl here) = ([], ws, v, w, refl, here)
    more (inr h) = (v ∷ h.0, h.1, h.2, h.3, ap (λ l. v ∷ l) h.4, h.5)

    by_front : (front back : List Watcher) (x y : Watcher) → v ∷ w ∷ ws ≡ front ++ x ∷ y ∷ back → (y ≡ All) ⊎ (x ≡ y) → ((w ≡ All) ⊎ (v ≡ w)) ⊎ Idle (w ∷ ws)
    by_front [] back x y e (inl k) = inl (inl (cc))
    by_front [] back x y e (inr k) = inl (inr (cc))
    by_front (u ∷ front) back x y e k = inr (front, back, x, y, cc, k)

    less : Idle (v ∷ w ∷ ws) → ((w ≡ All) ⊎ (v ≡ w)) ⊎ Idle (w ∷ ws)
    less h = by_front h.0 h.1 h.2 h.3 h.4 h.5
