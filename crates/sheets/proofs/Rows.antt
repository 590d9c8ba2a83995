-- How a sheet's lines come one after the other. Assumes nothing.
use Rattle.std.proofs.Common.{◌≡◌, Bor, Option, Some, None, IfSome, ℕ, zero, suc, ◌+◌, ◌<◌, ◌≤◌, true, false, eqb, List, [], ◌∷◌, length, sym, refl, ap, ◌∙◌, arith}
use Rattle.std.specs.Option.{MatchOption, IsSomeAnd, option_map, is_some, unwrap_or}
use Rattle.std.specs.List.{slice_get, join_with_byte}
use Rattle.std.proofs.lemmas.List.Splits.{length-slice_split}
use Rattle.std.proofs.lemmas.List.Sums.{count_by-le-length}
use Rattle.std.proofs.lemmas.List.{nil_from_length}
use Rattle.std.specs.declared.iter.Enumerate.{Enumerate}
use Rattle.std.specs.Iterator.Adapters.{enumerate_source, enumerate_count}
use Rattle.sheets.specs.declared.lines.Line.{Line as Lent}
use Rattle.sheets.specs.declared.lines.Lines.{Lines}
use Rattle.sheets.specs.Rest.{lines_left}
use Rattle.sheets.specs.Lines.{shown, line_end, unfinished, as_lines, lines_of, line_at}
use Rattle.sheets.specs.Pieces.{pieces, following}
use Rattle.sheets.proofs.Cuts.{some-piece, rejoined_pieces}

pub no_lines : (s : List ℕ) → length s ≡ 0 → lines_of s ≡ []
no_lines s none = ap lines_of (nil_from_length s none)

-- the first line where a line end is found
line-ended : (s p rest : List ℕ) → pieces line_end s ≡ p ∷ pieces line_end rest → lines_of s ≡ record { text = p; ended = true } ∷ lines_of rest
line-ended s p rest cut = ap as_lines cut ∙ by_rest (pieces line_end rest) (some-piece line_end rest)
  where
    by_rest : (ps : List (List ℕ)) → 0 < length ps → as_lines (p ∷ ps) ≡ record { text = p; ended = true } ∷ as_lines ps
    by_rest [] some = absurd (omega arith)
    by_rest (q ∷ ps) some = refl

-- the first line where no line end is found
line-unfinished : (s p : List ℕ) → 0 < length s → pieces line_end s ≡ p ∷ [] → lines_of s ≡ record { text = p; ended = false } ∷ []
line-unfinished s p some cut =
    let whole : p ≡ s = ap (join_with_byte line_end) (sym cut) ∙ rejoined_pieces line_end s in
    ap as_lines cut ∙ by_text p (omega (arith, ap length whole))
  where
    by_text : (p : List ℕ) → 0 < length p → unfinished p ≡ record { text = p; ended = false } ∷ []
    by_text [] some = absurd (omega arith)
    by_text (b ∷ p) some = refl

-- the first line and what follows it, as a text is cut at its first line end
pub line-cut : (s p : List ℕ) (rest : Option (Bor (List ℕ))) (blank : Bor (List ℕ)) → blank.now ≡ [] → 0 < length s → pieces line_end s ≡ p ∷ following line_end (option_map (λ x. x.now) rest) → IfSome rest (λ x. length x.now < length s) → (lines_of s ≡ record { text = p; ended = is_some rest } ∷ lines_of (unwrap_or rest blank).now) × (length (unwrap_or rest blank).now < length s)
line-cut s p None blank bare some cut less = (line-unfinished s p some cut ∙ ap (λ b. record { text = p; ended = false } ∷ lines_of b) (sym bare), omega (arith, some, ap length bare))
line-cut s p (Some rest) blank bare some cut less = (line-ended s p rest.now cut, less)

-- a sheet has no more lines than bytes and one
pub few_lines : (s : List ℕ) → length (lines_of s) ≤ length s + 1
few_lines s = omega (arith, as_many (pieces line_end s), length-slice_split (λ b. eqb b line_end) s, count_by-le-length (λ b. eqb b line_end) s)
  where
    as_many : (ps : List (List ℕ)) → length (as_lines ps) ≤ length ps
    as_many [] = omega arith
    as_many ([] ∷ []) = omega arith
    as_many ((b ∷ p) ∷ []) = omega arith
    as_many (p ∷ q ∷ ps) = omega (arith, as_many (q ∷ ps))

-- so its numbered lines can be counted
pub few_numbered : (s : List ℕ) (lines : Lines) (made given : Enumerate Lines) → given ≡ made → enumerate_source made ≡ lines → enumerate_count made ≡ 0 → lines_left lines ≡ lines_of s → enumerate_count given + length (lines_left (enumerate_source given)) ≤ length s + 1
few_numbered s lines made given same source from_none whole =
    omega (arith, ap (λ e. enumerate_count e + length (lines_left (enumerate_source e))) same, ap (λ x. length (lines_left x)) source, from_none, ap length whole, few_lines s)

-- the line with a number stands at the index below it
pub line-numbered : (s : List ℕ) (n i : ℕ) → n ≡ i + 1 → line_at s n ≡ option_map (λ l. l.text) (slice_get (lines_of s) i)
line-numbered s zero i is = absurd (omega arith)
line-numbered s (suc n) i is = let same : n ≡ i = omega arith in ap (λ k. option_map (λ l. l.text) (slice_get (lines_of s) k)) same

-- the text of a line that is lent, if there is one
pub line-text : {Tells : Lent → Bor (List ℕ) → Type 0} (line : Option Lent) (text : Option (Bor (List ℕ))) → MatchOption line (text ≡ None) (λ l. IsSomeAnd text (Tells l)) → ((l : Lent) (x : Bor (List ℕ)) → Tells l x → x ≡ l.text) → option_map (λ x. x.now) text ≡ option_map (λ l. l.text) (option_map shown line)
line-text None text is each = ap (option_map (λ x. x.now)) is
line-text (Some l) None is each = absurd is
line-text (Some l) (Some x) is each = ap (λ y. Some y.now) (each l x is)
