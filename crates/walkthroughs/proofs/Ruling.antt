-- A depot that was read, by number, as the rules have it. Assumes nothing.
use Rattle.std.specs.Borrow.{Bor}
use Rattle.std.specs.List.{slice_get}
use Rattle.std.specs.Option.{MatchOption, option_map, unwrap_or}
use Rattle.std.proofs.lemmas.Option.{slice_get-map, unwrap_or-slice_get}
use Rattle.std.proofs.Common.{◌≡◌, ℕ, zero, suc, Bool, List, [], ◌∷◌, map, get_or, Some, None, Option, sym, refl, ap, ◌∙◌, arith}
use Rattle.depots.specs.declared.depot.Effect.{Effect as Kept}
use Rattle.sheets.specs.Numbered.{entry_at}
use Rattle.depots.specs.Moves.{effects_of, need_of}
use Rattle.depots.specs.Tables.{Tables, effect_of}
use Rattle.depots.specs.Tables as tables
use Rattle.walkthroughs.specs.Depots.{move_of, numbered, part_of}
use Rattle.walkthroughs.proofs.Firings.{nothing}
use Rattle.walkthroughs.specs.Ruled.{ruled, with_effects}

-- the entry with a number, if it is listed
pub numbered-some : {X : Type 0} (entries : List X) (n : ℕ) (other x : X) → entry_at entries n ≡ Some x → numbered entries n other ≡ x
numbered-some entries zero other x is = absurd (let z : ◌≡◌ {A = ℕ} 0 1 = cc in omega arith)
numbered-some [] (suc n) other x is = absurd (let z : ◌≡◌ {A = ℕ} 0 1 = cc in omega arith)
numbered-some (e ∷ entries) (suc zero) other x is = let same : e ≡ x = cc in same
numbered-some (e ∷ entries) (suc (suc n)) other x is = numbered-some entries (suc n) other x is

pub numbered-none : {X : Type 0} (entries : List X) (n : ℕ) (other : X) → entry_at entries n ≡ None → numbered entries n other ≡ other
numbered-none entries zero other is = refl
numbered-none [] (suc n) other is = refl
numbered-none (e ∷ entries) (suc zero) other is = absurd (let z : ◌≡◌ {A = ℕ} 0 1 = cc in omega arith)
numbered-none (e ∷ entries) (suc (suc n)) other is = numbered-none entries (suc n) other is

-- what is told of the entry with a number, or of another where none is listed
pub numbered-read : {X A R : Type 0} (entries : List X) (n : ℕ) (other : X) (of : X → R) (v : A → X) (Told : A → Type 0) (r : R) → ((x : A) → Told x → r ≡ of (v x)) → (o : Option A) → option_map v o ≡ entry_at entries n → MatchOption o (r ≡ of other) Told → r ≡ of (numbered entries n other)
numbered-read entries n other of v Told r told None is else = else ∙ ap of (sym (numbered-none entries n other (sym is)))
numbered-read entries n other of v Told r told (Some x) is given = told x given ∙ ap of (sym (numbered-some entries n other (v x) (sym is)))

module _ {F : Type 0} (carries : F → F → Bool) (t : Tables F) where
  -- the need and the effects of a move
  pub need_is : (n : ℕ) → unwrap_or (need_of t.moves n) 0 ≡ (move_of (ruled carries t) n).need
  need_is n = by_moves t.moves n
    where
      by_moves : (moves : List tables.Move) (n : ℕ) → unwrap_or (need_of moves n) 0 ≡ (numbered (with_effects moves t.effects) n (record { need = 0; effects = [] })).need
      by_moves moves zero = refl
      by_moves [] (suc n) = refl
      by_moves (v ∷ moves) (suc zero) = refl
      by_moves (v ∷ moves) (suc (suc n)) = by_moves moves (suc n)

  pub effects_are : (n : ℕ) → effects_of t.moves t.effects n ≡ (move_of (ruled carries t) n).effects
  effects_are n = by_moves t.moves n
    where
      by_moves : (moves : List tables.Move) (n : ℕ) → effects_of moves t.effects n ≡ (numbered (with_effects moves t.effects) n (record { need = 0; effects = [] })).effects
      by_moves moves zero = refl
      by_moves [] (suc n) = refl
      by_moves (v ∷ moves) (suc zero) = refl
      by_moves (v ∷ moves) (suc (suc n)) = by_moves moves (suc n)

  -- the effects of a move as a depot lends them
  module _ (m : ℕ) (lent : List (Kept ℕ)) (are : map effect_of lent ≡ effects_of t.moves t.effects m) where
    pub lent_are : map effect_of lent ≡ (move_of (ruled carries t) m).effects
    lent_are = are ∙ effects_are m

    -- the part that is the condition of one of them
    pub part_is : (n i : ℕ) (o : Option (Kept ℕ)) → n ≡ suc i → o ≡ slice_get lent i → (unwrap_or (option_map effect_of o) nothing).condition ≡ part_of (ruled carries t) m n
    part_is n i o is at =
        ap (λ o. (unwrap_or (option_map effect_of o) nothing).condition) at
        ∙ ap (λ o. (unwrap_or o nothing).condition) (sym (slice_get-map effect_of lent i))
        ∙ ap (λ e. e.condition) (unwrap_or-slice_get (map effect_of lent) i nothing)
        ∙ ap (λ l. (get_or l i nothing).condition) lent_are
        ∙ ap (part_of (ruled carries t) m) (sym is)

-- the condition of an effect that is lent, or 0
pub condition_read : (o : Option (Bor (Kept ℕ))) → unwrap_or (option_map (λ x. (effect_of x.now).condition) o) 0 ≡ (unwrap_or (option_map effect_of (option_map (λ x. x.now) o)) nothing).condition
condition_read None = refl
condition_read (Some x) = refl
