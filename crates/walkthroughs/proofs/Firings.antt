-- What moves do together, and one after the other. Assumes nothing.
use Rattle.std.proofs.Common.{◌≡◌, ℕ, suc, ◌<◌, Bool, true, false, cond, not, ◌&&◌, ◌||◌, List, [], ◌∷◌, ◌++◌, get_or, sym, refl, ap, ◌∙◌, inl, inr, arith}
use mathlib.Core.Path.{fun_ext}
use mathlib.Core.Bool.{and-true}
use Rattle.std.specs.List.{flat_map, AllByRecursion, list_any}
use Rattle.std.proofs.lemmas.Bool.{cases_Bool, or_left, true≢false}
use Rattle.depots.specs.Tables.{Effect}
use Rattle.walkthroughs.specs.Depots.{Depot, State, Carrying, Listed, move_of, truth_of, reads}
use Rattle.walkthroughs.specs.Firing.{fires, fired_by, fired, adds, removes, after, clash, contradictory, one_by_one, Closed, start_of}
use Rattle.walkthroughs.specs.Laws.{EffectsTakePlace, GroupsJoin, UnlistedStay}
use Rattle.walkthroughs.specs.Lists.{SameMoves, Within, times}
use Rattle.std.proofs.lemmas.List.Folds.{list_any-append}
use Rattle.walkthroughs.proofs.Counts.{any_at, any-joined, any-weaker, any-within, same_bool}

abbrev pub nothing : Effect
nothing = record { condition = 0; settings = []; strikes = [] }

-- all parts of a move read at t as they read at s
abbrev pub Alike : Depot → State → State → ℕ → Type 0
Alike d s t m = (e : ℕ) → reads d t m e ≡ reads d s m e

fired-append : (d : Depot) (s : State) (list : Effect → List ℕ) (p : ℕ → Bool) (a b : List ℕ) → list_any p (fired d s list (a ++ b)) ≡ (list_any p (fired d s list a) || list_any p (fired d s list b))
fired-append d s list p a b =
    let q : ℕ → Bool = λ m. list_any p (fired_by d s list m) in
    any-joined p (fired_by d s list) (a ++ b) ∙ list_any-append q a b ∙ ap (λ x. x || list_any q b) (sym (any-joined p (fired_by d s list) a)) ∙ ap (λ x. list_any p (fired d s list a) || x) (sym (any-joined p (fired_by d s list) b))

fired-within : (d : Depot) (s : State) (list : Effect → List ℕ) (p : ℕ → Bool) (a b : List ℕ) → Within a b → list_any p (fired d s list a) ≡ true → list_any p (fired d s list b) ≡ true
fired-within d s list p a b w h = any-joined p (fired_by d s list) b ∙ any-within (λ m. list_any p (fired_by d s list m)) a b w (sym (any-joined p (fired_by d s list) a) ∙ h)

fired-order : (d : Depot) (s : State) (list : Effect → List ℕ) (p : ℕ → Bool) (a b : List ℕ) → SameMoves a b → list_any p (fired d s list a) ≡ list_any p (fired d s list b)
fired-order d s list p a b same = same_bool (list_any p (fired d s list a)) (list_any p (fired d s list b)) (fired-within d s list p a b (λ x. omega (arith, same x))) (fired-within d s list p b a (λ x. omega (arith, same x)))

-- moves whose parts read alike fire alike
same-effects : (d : Depot) (s t : State) (list : Effect → List ℕ) (es : List Effect) → ((e : ℕ) → truth_of d t (get_or es e nothing).condition ≡ truth_of d s (get_or es e nothing).condition) → flat_map (fires d t list) es ≡ flat_map (fires d s list) es
same-effects d s t list [] h = refl
same-effects d s t list (a ∷ es) h =
    let L : Bool → List ℕ = λ b. cond b (list a) [] ++ flat_map (fires d t list) es in
    ap L (h 0) ∙ ap (λ l. fires d s list a ++ l) (same-effects d s t list es (λ e. h (suc e)))

same-fired_by : (d : Depot) (s t : State) (list : Effect → List ℕ) (m : ℕ) → Alike d s t m → fired_by d t list m ≡ fired_by d s list m
unfolding fired_by
same-fired_by d s t list m alike = same-effects d s t list (move_of d m).effects (λ e. alike (suc e))

pub same-fired : (d : Depot) (s t : State) (list : Effect → List ℕ) (ms : List ℕ) → AllByRecursion (Alike d s t) ms → fired d t list ms ≡ fired d s list ms
same-fired d s t list [] h = refl
same-fired d s t list (m ∷ ms) h = ap (λ l. l ++ fired d t list ms) (same-fired_by d s t list m h.0) ∙ ap (λ l. fired_by d s list m ++ l) (same-fired d s t list ms h.1)

pub contradictory-within : (d : Depot) (s : State) (a b : List ℕ) → Within a b → contradictory d s b ≡ false → contradictory d s a ≡ false
contradictory-within d s a b w h = elim (cases_Bool (contradictory d s a)) [ inr k ↦ k | inl k ↦ absurd (true≢false (sym (bigger k) ∙ h)) ]
  where
    bigger : contradictory d s a ≡ true → contradictory d s b ≡ true
    bigger k = fired-within d s (λ e. e.settings) (λ g. list_any (λ f. d.carries g f) (fired d s (λ e. e.strikes) b)) a b w (any-weaker (λ g. list_any (λ f. d.carries g f) (fired d s (λ e. e.strikes) a)) (λ g. list_any (λ f. d.carries g f) (fired d s (λ e. e.strikes) b)) (λ g. fired-within d s (λ e. e.strikes) (λ f. d.carries g f) a b w) (fired d s (λ e. e.settings) a) k)

pub contradictory-alike : (d : Depot) (s t : State) (ms : List ℕ) → AllByRecursion (Alike d s t) ms → contradictory d t ms ≡ contradictory d s ms
contradictory-alike d s t ms h = ap (λ l. clash d l (fired d t (λ e. e.strikes) ms)) (same-fired d s t (λ e. e.settings) ms h) ∙ ap (λ l. clash d (fired d s (λ e. e.settings) ms) l) (same-fired d s t (λ e. e.strikes) ms h)

pub after_none : (d : Depot) (s : State) → after d s [] ≡ s
unfolding after
after_none d s = fun_ext (λ f. kept (s f))
  where
    kept : (b : Bool) → (false || (b && not false)) ≡ b
    kept true = refl
    kept false = refl

pub after-order : (d : Depot) (s : State) (a b : List ℕ) → SameMoves a b → after d s a ≡ after d s b
unfolding after
after-order d s a b same = fun_ext (λ f. ap (λ x. x || (s f && not (removes d s a f))) (fired-order d s (λ e. e.settings) (λ g. d.carries g f) a b same) ∙ ap (λ x. adds d s b f || (s f && not x)) (fired-order d s (λ e. e.strikes) (λ g. d.carries f g) a b same))

-- moves that fire alike do alike
after-alike : (d : Depot) (s t : State) (ms : List ℕ) (f : ℕ) → AllByRecursion (Alike d s t) ms → after d t ms f ≡ (adds d s ms f || (t f && not (removes d s ms f)))
unfolding after
after-alike d s t ms f h = ap (λ l. list_any (λ g. d.carries g f) l || (t f && not (removes d t ms f))) (same-fired d s t (λ e. e.settings) ms h) ∙ ap (λ l. adds d s ms f || (t f && not (list_any (λ g. d.carries f g) l))) (same-fired d s t (λ e. e.strikes) ms h)

-- a setting carries a fact that carries a strike, and so the strike
any-pair : (d : Depot) → Carrying d → (f : ℕ) (settings strikes : List ℕ) → list_any (λ g. d.carries g f) settings ≡ true → list_any (λ g. d.carries f g) strikes ≡ true → clash d settings strikes ≡ true
any-pair d law f settings strikes a r = any-weaker (λ g. d.carries g f) (λ g. list_any (λ h. d.carries g h) strikes) (λ g k. any-weaker (λ h. d.carries f h) (λ h. d.carries g h) (λ h l. law.onward g f h k l) strikes r) settings a

-- composition: moves that read as at the start after others, without contradiction, do after them what all do together
pub after-after : GroupsJoin
unfolding after
after-after d law s a b agreed alike = fun_ext (λ f. after-alike d s (after d s a) b f alike ∙ (joins (adds d s a f) (adds d s b f) (removes d s a f) (removes d s b f) (s f) (apart f) ∙ sym (ap (λ x. x || (s f && not (removes d s (a ++ b) f))) (fired-append d s (λ e. e.settings) (λ g. d.carries g f) a b) ∙ ap (λ x. (adds d s a f || adds d s b f) || (s f && not x)) (fired-append d s (λ e. e.strikes) (λ g. d.carries f g) a b))))
  where
    joins : (aa ab ra rb st : Bool) → (aa ≡ true → rb ≡ true → ⊥) → (ab || ((aa || (st && not ra)) && not rb)) ≡ ((aa || ab) || (st && not (ra || rb)))
    joins aa ab ra rb st never = grind arith

    whole : (list : Effect → List ℕ) (p : ℕ → Bool) → list_any p (fired d s list a) || list_any p (fired d s list b) ≡ true → list_any p (fired d s list (a ++ b)) ≡ true
    whole list p h = fired-append d s list p a b ∙ h

    apart : (f : ℕ) → adds d s a f ≡ true → removes d s b f ≡ true → ⊥
    apart f set struck = true≢false (sym (any-pair d law f (fired d s (λ e. e.settings) (a ++ b)) (fired d s (λ e. e.strikes) (a ++ b)) (whole (λ e. e.settings) (λ g. d.carries g f) (grind arith)) (whole (λ e. e.strikes) (λ g. d.carries f g) (grind arith))) ∙ agreed)

pub one_by_one-append : (d : Depot) (s : State) (a b : List ℕ) → one_by_one d s (a ++ b) ≡ one_by_one d (one_by_one d s a) b
one_by_one-append d s [] b = refl
one_by_one-append d s (m ∷ a) b = one_by_one-append d (after d s (m ∷ [])) a b

-- facts stay closed under carrying
pub closed_after : (d : Depot) → Carrying d → (s : State) (ms : List ℕ) → Closed d s → Closed d (after d s ms)
unfolding after
closed_after d law s ms closed f g stands carried = keeps (adds d s ms f) (s f) (removes d s ms f) (adds d s ms g) (s g) (removes d s ms g) (any-weaker (λ h. d.carries h f) (λ h. d.carries h g) (λ h k. law.onward h f g k carried) (fired d s (λ e. e.settings) ms)) (λ k. closed f g k carried) (any-weaker (λ h. d.carries g h) (λ h. d.carries f h) (λ h k. law.onward f g h carried k) (fired d s (λ e. e.strikes) ms)) stands
  where
    keeps : (af sf rf ag sg rg : Bool) → (af ≡ true → ag ≡ true) → (sf ≡ true → sg ≡ true) → (rg ≡ true → rf ≡ true) → (af || (sf && not rf)) ≡ true → (ag || (sg && not rg)) ≡ true
    keeps af sf rf ag sg rg p q r h = grind arith

pub closed-start : (d : Depot) → Carrying d → Closed d (start_of d)
closed-start d law f g stands carried = any-weaker (λ h. d.carries h f) (λ h. d.carries h g) (λ h k. law.onward h f g k carried) d.started stands

-- facts that are not listed stay as they are
-- no entry passes a test that none can pass
pub never : (p : ℕ → Bool) (xs : List ℕ) → ((x : ℕ) → p x ≡ true → ⊥) → list_any p xs ≡ false
never p xs none = elim (cases_Bool (list_any p xs)) [ inr k ↦ k | inl k ↦ absurd (true≢false (sym (any-weaker p (λ x. false) (λ x h. absurd (none x h)) xs k) ∙ any_false xs)) ]
  where
    any_false : (xs : List ℕ) → list_any (λ x. false) xs ≡ false
    any_false [] = refl
    any_false (x ∷ xs) = any_false xs

-- a fact that is not listed does not stand at the start, and moves leave it as it was
pub unlisted-start : (d : Depot) → Carrying d → (f : ℕ) → (Listed f d.facts → ⊥) → start_of d f ≡ false
unlisted-start d law f unlisted = never (λ g. d.carries g f) d.started (λ g k. unlisted (law.listed g f k).1)

pub unlisted-stay : UnlistedStay
unfolding after
unlisted-stay d law s moves f unlisted = rw (never (λ g. d.carries g f) (fired d s (λ e. e.settings) moves) (λ g k. unlisted (law.listed g f k).1), never (λ g. d.carries f g) (fired d s (λ e. e.strikes) moves) (λ g k. unlisted (law.listed f g k).0)) (and-true (s f))

-- started facts stand, set facts stand and struck facts go, since each fact carries itself
pub effects_take_place : EffectsTakePlace
unfolding after
effects_take_place d law = record { start = λ f l there. any_at (λ g. d.carries g f) f d.started (law.itself f l) there; setting = λ s moves f l there. or_left (adds d s moves f) (s f && not (removes d s moves f)) (any_at (λ g. d.carries g f) f (fired d s (λ e. e.settings) moves) (law.itself f l) there); strike = λ s moves f l agreed there. gone (adds d s moves f) (s f) (removes d s moves f) (unset s moves f agreed there) (any_at (λ g. d.carries f g) f (fired d s (λ e. e.strikes) moves) (law.itself f l) there) }
  where
    gone : (a st r : Bool) → (a ≡ true → ⊥) → r ≡ true → (a || (st && not r)) ≡ false
    gone a st r never struck = grind arith

    unset : (s : State) (moves : List ℕ) (f : ℕ) → contradictory d s moves ≡ false → 0 < times f (fired d s (λ e. e.strikes) moves) → adds d s moves f ≡ true → ⊥
    unset s moves f agreed there set = true≢false (sym (any-weaker (λ g. d.carries g f) (λ g. list_any (λ h. d.carries g h) (fired d s (λ e. e.strikes) moves)) (λ g k. any_at (λ h. d.carries g h) f (fired d s (λ e. e.strikes) moves) k there) (fired d s (λ e. e.settings) moves) set) ∙ agreed)
