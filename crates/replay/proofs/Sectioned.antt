-- Cutting an input at its first empty line. Assumes nothing.
use Rattle.std.proofs.Common.{◌≡◌, ℕ, ◌-◌, ◌<◌, ◌≤◌, true, false, List, [], ◌∷◌, ◌++◌, length, take, drop, refl, sym, ap, ◌∙◌, arith, length-append}
use Rattle.std.specs.List.{flat_map}
use Rattle.std.proofs.lemmas.Grind.{flat_map-append}
use Rattle.std.proofs.lemmas.List.{take-append-drop, take_at, drop-drop, length-drop}
use Rattle.sheets.specs.Laws.{as_written}
use Rattle.sheets.specs.Lines.{Line, lines_of}
use Rattle.sheets.proofs.Splitting.{lines_split}
use Rattle.replay.specs.Sections.{above_empty, below_empty, from_empty, is_filled, lines_above}

-- The lines from the first empty one on.
abbrev pub lines_from : List Line → List Line
lines_from ls = drop (lines_above ls) ls

filled_passed : (l : Line) (ls : List Line) → is_filled l ≡ true → lines_from (l ∷ ls) ≡ lines_from ls
filled_passed l ls filled = rw filled (sym (drop-drop (lines_above ls) 1 (l ∷ ls)))

-- A filled line is passed over.
pub passed_on : (rest below : List ℕ) (l : Line) (left : List Line) → lines_of rest ≡ l ∷ lines_of below → is_filled l ≡ true → lines_from (lines_of rest) ≡ left → lines_from (lines_of below) ≡ left
passed_on rest below l left first filled same = sym (filled_passed l (lines_of below) filled) ∙ (sym (ap lines_from first) ∙ same)

-- The lines of a sheet, one after the other, are the sheet.
written_whole : (s : List ℕ) → flat_map as_written (lines_of s) ≡ s
written_whole s = (lines_split s).whole

stops : (s rest : List ℕ) → lines_from (lines_of rest) ≡ lines_from (lines_of s) → lines_from (lines_of rest) ≡ lines_of rest → rest ≡ from_empty s
stops s rest same stays = sym (written_whole rest) ∙ ap (flat_map as_written) (sym stays ∙ same)

empty_stays : (l : Line) (ls : List Line) → is_filled l ≡ false → lines_from (l ∷ ls) ≡ l ∷ ls
empty_stays l ls blank = rw blank refl

-- What is left is what stands from the first empty line on, where it begins with that line.
pub stops_at_empty : (s rest : List ℕ) (l : Line) (more : List Line) → lines_of rest ≡ l ∷ more → is_filled l ≡ false → lines_from (lines_of rest) ≡ lines_from (lines_of s) → rest ≡ from_empty s
stops_at_empty s rest l more first blank same = stops s rest same (ap lines_from first ∙ (empty_stays l more blank ∙ sym first))

-- The same where no line is left.
pub stops_at_end : (s rest : List ℕ) → lines_of rest ≡ [] → lines_from (lines_of rest) ≡ lines_from (lines_of s) → rest ≡ from_empty s
stops_at_end s rest end same = stops s rest same (ap lines_from end ∙ sym end)

-- What stands above the first empty line and what stands from it on are the input.
halves_whole : (s : List ℕ) → above_empty s ++ from_empty s ≡ s
halves_whole s =
    sym (flat_map-append as_written (take (lines_above (lines_of s)) (lines_of s)) (lines_from (lines_of s))) ∙ (ap (flat_map as_written) (take-append-drop (lines_above (lines_of s)) (lines_of s)) ∙ written_whole s)

pub from_within : (s : List ℕ) → length (from_empty s) ≤ length s
from_within s = omega (arith, ap length (halves_whole s), length-append (above_empty s) (from_empty s))

front_taken : (s a b : List ℕ) → a ++ b ≡ s → take (length s - length b) s ≡ a
front_taken s a b whole = rw (sym whole) (take_at a b (length (a ++ b) - length b) (omega (arith, length-append a b)))

pub above_taken : (s : List ℕ) → take (length s - length (from_empty s)) s ≡ above_empty s
above_taken s = front_taken s (above_empty s) (from_empty s) (halves_whole s)

-- Less stands below the first empty line of an input that is not empty.
pub below_shorter : (s : List ℕ) → 0 < length s → length (below_empty s) < length s
below_shorter s some = omega (arith, some, from_within s, length-drop 1 (from_empty s))

-- What stands below the first trial is shorter.
pub below_twice : (s : List ℕ) → 0 < length s → length (below_empty (below_empty s)) < length s
below_twice s some = omega (arith, below_shorter s some, from_within (below_empty s), length-drop 1 (from_empty (below_empty s)))
