-- What an iterator gave for the elements that it took from a list, one by one. Assumes nothing.
use Rattle.std.proofs.Common.{◌≡◌, ℕ, List, [], ◌∷◌, ◌++◌, Some, None, Option, length, sym, refl, ap, subst, ◌∙◌, arith}
use Rattle.std.proofs.lemmas.List.{append-nil}
use Rattle.std.specs.Iterator.{Yields, YieldsThen}
use Rattle.std.specs.Iterator.Runs.{Run, YieldsRun}
use Rattle.std.specs.List.{AllZip, slice_get}
use Rattle.std.specs.Option.{IsSomeAnd}

nothing : {X : Type 0} (xs : List X) → length xs ≡ 0 → xs ≡ []
nothing [] none = refl
nothing (x ∷ xs) none = absurd (omega (arith, none))

told : {R : Type 0} (o : Option R) (r : R) → IsSomeAnd o (λ x. r ≡ x) → o ≡ Some r
told None r is = absurd is
told (Some x) r is = ap Some (sym is)

module _ {M X R : Type 0} (steps : M → Option R → M → Type 0) (left : M → List X) (Kept : M → Type 0) (Gave : X → R → Type 0) where
  -- a step takes the next element
  abbrev pub Takes : Type 0
  Takes = (m n : M) (r : R) → steps m (Some r) n → Kept m → (x : X) × (left m ≡ x ∷ left n) × Kept n × Gave x r

  gave_first : Takes → (rs : List R) (m n : M) → Yields steps m rs n → Kept m → (front : List X) × (left m ≡ front ++ left n) × AllZip Gave front rs
  gave_first takes [] m n y kept = ([], ap left y, tt)
  gave_first takes (r ∷ rs) m n y kept =
      let turn = takes m y.0 r y.1 kept in
      let on = gave_first takes rs y.0 n y.2 turn.2 in
      (turn.0 ∷ on.0, turn.1 ∙ ap (λ l. turn.0 ∷ l) on.1, (turn.3, on.2))

  -- what was given until nothing was left is for each; antt reads the steps off the run, whichever it is
  pub gave_all : Run steps → (rs : List R) (m u : M) → YieldsThen steps m rs None u → Kept m → Takes → ((n : M) → steps n None u → length (left n) ≡ 0) → AllZip Gave (left m) rs
  gave_all p rs m u y kept takes ends =
      let first = gave_first takes rs m y.0 y.1 kept in
      let none = nothing (left y.0) (ends y.0 y.2) in
      subst (λ l. AllZip Gave l rs) (sym (first.1 ∙ ap (λ l. first.0 ++ l) none ∙ append-nil first.0)) first.2

  -- what a run gave is for the first elements, and is told by its places
  pub gave_at : (p : Run steps) (i : ℕ) (r : R) → IsSomeAnd (p.at i) (λ x. r ≡ x) → Kept p.from → Takes
      → (front : List X) × (rest : List X) × (left p.from ≡ front ++ rest) × AllZip Gave front p.items × (slice_get p.items i ≡ Some r)
  unfolding YieldsRun
  gave_at p i r is kept takes =
      let first = gave_first takes p.items p.from p.gave.0.0 p.gave.0.1 kept in
      (first.0, left p.gave.0.0, first.1, first.2, sym (p.gave.1 i) ∙ told (p.at i) r is)
