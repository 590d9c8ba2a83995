-- How a text's pieces come one after the other. Assumes nothing.
use Rattle.std.proofs.Common.{◌≡◌, ℕ, ◌<◌, Bor, Bool, true, false, cond, eqb, List, [], ◌∷◌, ◌++◌, length, get_or, Option, Some, None, MatchOption, sym, ap, subst, ◌∙◌, arith}
use Rattle.std.specs.Bool.{MatchBool}
use Rattle.std.specs.List.{All, join_with_byte, slice_split, IsFirstMatchOrLen}
use Rattle.std.specs.Option.{option_map, unwrap_or}
use Rattle.std.proofs.lemmas.Bool.{false≢true}
use Rattle.std.proofs.lemmas.Grind.{common_steps}
use Rattle.std.proofs.lemmas.List.Splits.{length-slice_split, join_with_byte-slice_split, slice_split_at, slice_split_none}
use Rattle.sheets.specs.Pieces.{pieces, following}

-- what stands before the first element that passes, and what follows it
split_first : {X : Type 0} (p : X → Bool) (xs first rest : List X) (done : Bool) → MatchBool done (xs ≡ first) ((y : X) × (xs ≡ first ++ (y ∷ rest))) → IsFirstMatchOrLen p xs (length first) → slice_split p xs ≡ first ∷ cond done [] (slice_split p rest)
split_first p xs first rest true whole none = ap (slice_split p) whole ∙ slice_split_none p first (λ k d l. subst (λ ys. p (get_or ys k d) ≡ false) whole (none.0 k d (omega arith) l))
split_first p xs first rest false cut none =
    let is = cut.1 in
    let alone : All (λ z. p z ≡ false) first = λ k d l. let a = none.0 k d (omega arith) l in grind (arith, common_steps) in
    let mark : p cut.0 ≡ true = let a = none.1 (grind (arith, common_steps)) cut.0 in grind (arith, common_steps) in
    ap (slice_split p) is ∙ slice_split_at p first cut.0 rest alone mark

-- two calls of `splitn(2, ..)` give the first piece, and what follows its mark
pub halves : (mark : ℕ) (xs rest : List ℕ) (done : Bool) (first after : Option (Bor (List ℕ))) (d f : Bor (List ℕ)) → f ≡ unwrap_or first d → MatchOption first ⊥ (λ x. MatchBool done (xs ≡ x.now) ((y : ℕ) × (xs ≡ x.now ++ (y ∷ rest))) × IsFirstMatchOrLen (λ b. eqb b mark) xs (length x.now)) → MatchOption after (done ≡ true) (λ x. (done ≡ false) × (rest ≡ x.now)) → pieces mark xs ≡ f.now ∷ following mark (option_map (λ x. x.now) after)
halves mark xs rest done None after d f is none two = absurd none
halves mark xs rest true (Some x) None d f is one two = split_first (λ b. eqb b mark) xs x.now rest true one.0 one.1 ∙ ap (λ (v : Bor (List ℕ)). v.now ∷ []) (sym is)
halves mark xs rest false (Some x) None d f is one two = absurd (false≢true two)
halves mark xs rest true (Some x) (Some y) d f is one two = absurd (false≢true (sym two.0))
halves mark xs rest false (Some x) (Some y) d f is one two = split_first (λ b. eqb b mark) xs x.now rest false one.0 one.1 ∙ ap (λ l. x.now ∷ pieces mark l) two.1 ∙ ap (λ (v : Bor (List ℕ)). v.now ∷ pieces mark y.now) (sym is)

-- what is told of a value or of none, told in other words
pub weaker : {A P P' : Type 0} {Q Q' : A → Type 0} (o : Option A) → MatchOption o P Q → (P → P') → ((x : A) → Q x → Q' x) → MatchOption o P' Q'
weaker None h none some = none h
weaker (Some x) h none some = some x h

-- a text has a piece
pub some-piece : (mark : ℕ) (bs : List ℕ) → 0 < length (pieces mark bs)
some-piece mark bs = omega (arith, length-slice_split (λ b. eqb b mark) bs)

-- joined by their marks, the pieces are the text
pub rejoined_pieces : (mark : ℕ) (bs : List ℕ) → join_with_byte mark (pieces mark bs) ≡ bs
rejoined_pieces mark bs = join_with_byte-slice_split mark bs
