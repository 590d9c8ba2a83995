-- The parts of a text: the watchers', and the matter's. Assumes nothing.
use Rattle.std.proofs.Common.{◌≡◌, ℕ, ◌+◌, ◌-◌, ◌<◌, Bool, true, false, ◌&&◌, cond, eqb, List, [], ◌∷◌, ◌++◌, length, get_or, Option, Some, None, sym, refl, ap, subst, ◌∙◌, arith}
use Rattle.std.specs.Bool.{MatchBool}
use Rattle.std.specs.List.{All, list_all, slice_split, onto_first, IsAfterLastMatch}
use Rattle.std.proofs.lemmas.List.Splits.{slice_split_none, length-slice_split}
use Rattle.std.proofs.lemmas.Grind.{common_steps}
use Rattle.std.proofs.Math.Bool.{and-true, and_assoc}
use Rattle.std.proofs.lemmas.Bool.{false≢true}
use Rattle.std.specs.Option.{option_map, unwrap_or, MatchOption}
use denote.Ref.{Bor}
use Rattle.sheets.specs.Pieces.{pieces, following}
use Rattle.facts.specs.Parts.{is_watcher, fitting, last_of, watcher_of, followed, watchers_in, watchers_named}

-- what stands before the last mark, and what follows it
module _ {X : Type 0} (p : X → Bool) where
  split_last : (front : List X) (y : X) (back : List X) → p y ≡ true → slice_split p back ≡ back ∷ [] → slice_split p (front ++ y ∷ back) ≡ slice_split p front ++ back ∷ []
  split_last [] y back mark alone = rw (mark, alone)
  split_last (x ∷ front) y back mark alone = by_first (p x) (slice_split p front) (omega (arith, length-slice_split p front)) (split_last front y back mark alone)
    where
      by_first : (b : Bool) (parts : List (List X)) → 0 < length parts → slice_split p (front ++ y ∷ back) ≡ parts ++ back ∷ [] → cond b ([] ∷ slice_split p (front ++ y ∷ back)) (onto_first x (slice_split p (front ++ y ∷ back))) ≡ cond b ([] ∷ parts) (onto_first x parts) ++ back ∷ []
      by_first true parts some e = ap (λ l. [] ∷ l) e
      by_first false [] some e = absurd (omega arith)
      by_first false (part ∷ parts) some e = ap (onto_first x) e

  split_at_last : (xs rest last : List X) (done : Bool) → MatchBool done (xs ≡ last) ((y : X) × (xs ≡ rest ++ (y ∷ last))) → IsAfterLastMatch p xs (length xs - length last) → slice_split p xs ≡ cond done [] (slice_split p rest) ++ last ∷ []
  split_at_last xs rest last true whole none = ap (slice_split p) whole ∙ slice_split_none p last (λ k d l. subst (λ ys. p (get_or ys k d) ≡ false) whole (none.0 k d (omega (arith, ap length whole)) (omega (arith, ap length whole))))
  split_at_last xs rest last false cut none =
      let is = cut.1 in
      let mark : p cut.0 ≡ true = let a = none.1 (grind (arith, common_steps)) cut.0 in grind (arith, common_steps) in
      let alone : All (λ z. p z ≡ false) last = λ k d l. let a = none.0 (length rest + 1 + k) d (grind (arith, common_steps)) (grind (arith, common_steps)) in grind (arith, common_steps) in
      ap (slice_split p) is ∙ split_last rest cut.0 last mark (slice_split_none p last alone)

-- two calls of `rsplitn(2, ..)` give the last part, and what stands before it
pub halves : (mark : ℕ) (xs rest : List ℕ) (done : Bool) (last before : Option (Bor (List ℕ))) (d m : Bor (List ℕ)) → m ≡ unwrap_or last d → MatchOption last ⊥ (λ x. MatchBool done (xs ≡ x.now) ((y : ℕ) × (xs ≡ rest ++ (y ∷ x.now))) × IsAfterLastMatch (λ b. eqb b mark) xs (length xs - length x.now)) → MatchOption before (done ≡ true) (λ x. (done ≡ false) × (rest ≡ x.now)) → pieces mark xs ≡ following mark (option_map (λ x. x.now) before) ++ m.now ∷ []
halves mark xs rest done None before d m is none two = absurd none
halves mark xs rest true (Some x) None d m is one two = split_at_last (λ b. eqb b mark) xs rest x.now true one.0 one.1 ∙ ap (λ (v : Bor (List ℕ)). v.now ∷ []) (sym is)
halves mark xs rest false (Some x) None d m is one two = absurd (false≢true two)
halves mark xs rest true (Some x) (Some y) d m is one two = absurd (false≢true (sym two.0))
halves mark xs rest false (Some x) (Some y) d m is one two = split_at_last (λ b. eqb b mark) xs rest x.now false one.0 one.1 ∙ ap (λ l. pieces mark l ++ x.now ∷ []) two.1 ∙ ap (λ (v : Bor (List ℕ)). pieces mark y.now ++ v.now ∷ []) (sym is)

-- what is asked of the parts before the last, if there are any
pub watched : {Q : Bor (List ℕ) → Type 0} (before : Option (Bor (List ℕ))) (r : Bool) → MatchOption before (r ≡ true) Q → ((x : Bor (List ℕ)) → Q x → r ≡ list_all is_watcher (pieces 46 x.now)) → r ≡ list_all is_watcher (following 46 (option_map (λ x. x.now) before))
watched None r is each = is
watched (Some x) r is each = each x is

-- what is asked of all parts but the last, and of the last
module _ (last : List ℕ) where
  pub fitting_last : (front : List (List ℕ)) → fitting (front ++ last ∷ []) ≡ (list_all is_watcher front && fitting (last ∷ []))
  fitting_last [] = refl
  fitting_last (p ∷ []) = ap (λ t. t && fitting (last ∷ [])) (sym (and-true (is_watcher p)))
  fitting_last (p ∷ q ∷ front) = ap (λ t. is_watcher p && t) (fitting_last (q ∷ front)) ∙ sym (and_assoc (is_watcher p) (list_all is_watcher (q ∷ front)) (fitting (last ∷ [])))

  pub last_last : (front : List (List ℕ)) → last_of (front ++ last ∷ []) ≡ last
  last_last [] = refl
  last_last (p ∷ []) = refl
  last_last (p ∷ q ∷ front) = last_last (q ∷ front)

  pub watchers_last : (zones front : List (List ℕ)) → watchers_in zones (front ++ last ∷ []) ≡ watchers_named zones front
  watchers_last zones [] = refl
  watchers_last zones (p ∷ []) = refl
  watchers_last zones (p ∷ q ∷ front) = ap (followed (watcher_of zones p)) (watchers_last zones (q ∷ front))

-- the form of a text, by what is asked of its halves
pub fits : (parts front : List (List ℕ)) (last : List ℕ) (watched : Bool) → parts ≡ front ++ last ∷ [] → watched ≡ list_all is_watcher front → (watched && fitting (last ∷ [])) ≡ fitting parts
fits parts front last watched cut is = ap (λ t. t && fitting (last ∷ [])) is ∙ sym (fitting_last last front) ∙ sym (ap fitting cut)
