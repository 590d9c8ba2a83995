-- Entries of the tables by number. Assumes nothing.
use Rattle.std.proofs.Common.{◌≡◌, ℕ, zero, suc, ◌-◌, ◌<◌, ◌≤◌, min, max, List, [], ◌∷◌, map, length, take, drop, Some, None, Option, MatchOption, sym, refl, ap, ◌∙◌, ⊎_elim, arith, length-drop}
use Rattle.std.proofs.lemmas.List.{drop-map, drop_all, length-map, take-map, take_all}
use Rattle.std.specs.List.{ItemBy, slice_get}
use Rattle.std.specs.Option.{option_map, option_map_or}
use Rattle.std.proofs.lemmas.Bool.{cases_lt}
use Rattle.depots.specs.declared.depot.NamedMove.{NamedMove as Kept}
use Rattle.sheets.specs.Numbered.{entry_at}
use Rattle.depots.specs.Moves.{effects_of, end_of}
use Rattle.depots.specs.Tables.{Effect, move_of}
use Rattle.std.proofs.lemmas.Option.{none-some, same_Some, slice_get-map, slice_get_past, slice_get_read}

-- an entry that is lent, by what it stands for
pub entry_shown : {B X Y : Type 0} (look : B → X) (f : X → Y) (r : Option B) (xs : List X) (n : ℕ) → option_map look r ≡ entry_at xs n → option_map (λ b. f (look b)) r ≡ entry_at (map f xs) n
entry_shown look f None xs zero is = refl
entry_shown look f (Some b) xs zero is = cc
entry_shown look f None xs (suc n) is = ap (option_map f) is ∙ sym (slice_get-map f xs n)
entry_shown look f (Some b) xs (suc n) is = ap (option_map f) is ∙ sym (slice_get-map f xs n)

-- the last entry that is lent, by what it stands for
pub last_shown : {B X Y : Type 0} (look : B → X) (f : X → Y) (r : Option B) (xs : List X) → option_map look r ≡ slice_get xs (length xs - 1) → option_map (λ b. f (look b)) r ≡ entry_at (map f xs) (length (map f xs))
last_shown look f r [] is = entry_shown look f r [] 0 is
last_shown look f r (x ∷ xs) is =
    let below : length (x ∷ xs) - 1 ≡ length xs = omega arith in
    entry_shown look f r (x ∷ xs) (length (x ∷ xs)) (is ∙ ap (slice_get (x ∷ xs)) below) ∙ ap (entry_at (map f (x ∷ xs))) (sym (length-map (x ∷ xs) f))

-- an entry that was looked up by its place
pub looked_up : {B X : Type 0} (look : B → X) (r : Option B) (xs : List X) (i : ℕ) → ItemBy look xs i i r → option_map look r ≡ slice_get xs i
looked_up look None xs i at = sym (slice_get_past xs i at.3)
looked_up look (Some b) xs i at = sym (slice_get_read xs (length xs) i (look b) refl at.3.0 at.1)

-- what is told of an entry that is lent, or of none
pub told_or : {B X : Type 0} (look : B → X) (f : X → ℕ) (r : Option B) (other n : ℕ) (Tells : B → Type 0) → MatchOption r (n ≡ other) Tells → ((b : B) → Tells b → n ≡ f (look b)) → n ≡ option_map_or f (option_map look r) other
told_or look f None other n Tells is tells = is
told_or look f (Some b) other n Tells is tells = tells b is

pub effects_none : (kept : List Kept) (effects : List Effect) (n : ℕ) → None ≡ entry_at kept n → [] ≡ effects_of (map move_of kept) effects n
effects_none kept effects zero out = refl
effects_none [] effects (suc n) out = refl
effects_none (v ∷ kept) effects (suc zero) out = absurd (none-some _ out)
effects_none (v ∷ kept) effects (suc (suc n)) out = effects_none kept effects (suc n) out

-- the effects of a move by where they begin and end
pub own_found : (kept : List Kept) (effects : List Effect) (n : ℕ) (x : Kept) → Some x ≡ entry_at kept n → take (end_of (map move_of kept) (length effects) n - x.numbers.effects_before) (drop x.numbers.effects_before effects) ≡ effects_of (map move_of kept) effects n
own_found kept effects zero x is = absurd (none-some _ (sym is))
own_found [] effects (suc n) x is = absurd (none-some _ (sym is))
own_found (v ∷ []) effects (suc zero) x is =
    ap (λ m. take (length effects - m.numbers.effects_before) (drop m.numbers.effects_before effects)) (same_Some x v is) ∙ take_all (length effects - v.numbers.effects_before) (drop v.numbers.effects_before effects) (omega (arith, length-drop v.numbers.effects_before effects))
own_found (v ∷ u ∷ kept) effects (suc zero) x is = ap (λ m. take (u.numbers.effects_before - m.numbers.effects_before) (drop m.numbers.effects_before effects)) (same_Some x v is)
own_found (v ∷ kept) effects (suc (suc n)) x is = own_found kept effects (suc n) x is

take_none : {X : Type 0} (n : ℕ) → take {A = X} n [] ≡ []
take_none n = take_all n [] (omega arith)

-- bounds that are kept within a list cut out the same part
pub cut_capped : {X : Type 0} (xs : List X) (before end first last : ℕ) → first ≡ min before (length xs) → last ≡ max (min end (length xs)) first → take (last - first) (drop first xs) ≡ take (end - before) (drop before xs)
cut_capped xs before end first last is-first is_last =
    ⊎_elim
    (λ (out : length xs < before).
    let at : first ≡ length xs = omega arith in
    ap (take (last - first)) (drop_all first xs (omega arith)) ∙ take_none (last - first) ∙ sym (take_none (end - before)) ∙ ap (take (end - before)) (sym (drop_all before xs (omega arith))))
    (λ (within : before ≤ length xs).
    let at : first ≡ before = omega arith in
    ap (λ n. take (last - n) (drop n xs)) at ∙ ⊎_elim
    (λ (over : length xs < end). take_all (last - before) (drop before xs) (omega (arith, length-drop before xs)) ∙ sym (take_all (end - before) (drop before xs) (omega (arith, length-drop before xs))))
    (λ (under : end ≤ length xs). let same : last - before ≡ end - before = omega arith in ap (λ n. take n (drop before xs)) same)
    (cases_lt (length xs) end))
    (cases_lt (length xs) before)

pub map-part : {X Y : Type 0} (f : X → Y) (xs : List X) (n a : ℕ) → map f (take n (drop a xs)) ≡ take n (drop a (map f xs))
map-part f xs n a = sym (ap (take n) (drop-map f a xs) ∙ take-map f n (drop a xs))
