-- The lines of a sheet are the sheet, cut at its line ends. Assumes nothing.
use Rattle.std.proofs.Common.{◌≡◌, ℕ, zero, suc, true, eqb, List, [], ◌∷◌, ◌++◌, refl, ap, ◌∙◌, append_assoc, append-nil, arith}
use Rattle.std.specs.List.{flat_map, join_with_byte, onto_first, AllByRecursion}
use Rattle.std.specs.Str.Iter.{LacksByte}
use Rattle.std.proofs.lemmas.Bool.{cond_both, eqb-false}
use Rattle.sheets.specs.Laws.{as_written, EndsInOrder, LinesSplit}
use Rattle.sheets.specs.Lines.{Line, line_end, as_lines}
use Rattle.sheets.specs.Pieces.{pieces}
use Rattle.sheets.proofs.Cuts.{rejoined_pieces}

lacks_none : (mark : ℕ) → LacksByte mark []
lacks_none mark k within same = absurd (omega arith)

lacks_more : (mark b : ℕ) (bs : List ℕ) → (b ≡ mark → ⊥) → LacksByte mark bs → LacksByte mark (b ∷ bs)
lacks_more mark b bs other rest zero within same = other same
lacks_more mark b bs other rest (suc k) within same = rest k (omega arith) same

onto_first-lack : (mark b : ℕ) (ps : List (List ℕ)) → (b ≡ mark → ⊥) → AllByRecursion (LacksByte mark) ps → AllByRecursion (LacksByte mark) (onto_first b ps)
onto_first-lack mark b [] other all = (lacks_more mark b [] other (lacks_none mark), tt)
onto_first-lack mark b (p ∷ ps) other all = (lacks_more mark b p other all.0, all.1)

pieces-lack : (mark : ℕ) (bs : List ℕ) → AllByRecursion (LacksByte mark) (pieces mark bs)
pieces-lack mark [] = (lacks_none mark, tt)
pieces-lack mark (b ∷ bs) =
    cond_both (eqb b mark) _ _ (AllByRecursion (LacksByte mark)) (λ _. (lacks_none mark, pieces-lack mark bs)) (λ other. onto_first-lack mark b (pieces mark bs) (eqb-false b mark other) (pieces-lack mark bs))

lines_lack : (ps : List (List ℕ)) → AllByRecursion (LacksByte line_end) ps → AllByRecursion (λ l. LacksByte line_end l.text) (as_lines ps)
lines_lack [] all = tt
lines_lack ([] ∷ []) all = tt
lines_lack ((b ∷ p) ∷ []) all = (all.0, tt)
lines_lack (p ∷ q ∷ ps) all = (all.0, lines_lack (q ∷ ps) all.1)

lines_join : (ps : List (List ℕ)) → flat_map as_written (as_lines ps) ≡ join_with_byte line_end ps
lines_join [] = refl
lines_join ([] ∷ []) = refl
lines_join ((b ∷ p) ∷ []) = append-nil _ ∙ append-nil _
lines_join (p ∷ q ∷ ps) = append_assoc p (line_end ∷ []) _ ∙ ap (λ l. p ++ (line_end ∷ l)) (lines_join (q ∷ ps))

-- a line before others has its end
before_more : (p : List ℕ) (ls : List Line) → EndsInOrder ls → EndsInOrder (record { text = p; ended = true } ∷ ls)
before_more p [] ends = tt
before_more p (l ∷ ls) ends = (refl, ends)

lines_end : (ps : List (List ℕ)) → EndsInOrder (as_lines ps)
lines_end [] = tt
lines_end ([] ∷ []) = tt
lines_end ((b ∷ p) ∷ []) = omega arith
lines_end (p ∷ q ∷ ps) = before_more p (as_lines (q ∷ ps)) (lines_end (q ∷ ps))

pub lines_split : LinesSplit
lines_split s = record {
  whole = lines_join (pieces line_end s) ∙ rejoined_pieces line_end s;
  single = lines_lack (pieces line_end s) (pieces-lack line_end s);
  ends = lines_end (pieces line_end s);
}
