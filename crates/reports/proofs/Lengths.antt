-- How long reports are. Assumes nothing.
use Rattle.std.proofs.Common.{◌≡◌, ℕ, ◌+◌, ◌*◌, ◌^◌, ◌<◌, ◌≤◌, zero, suc, Bool, true, false, cond, List, [], ◌∷◌, ◌++◌, codes, length, get_or, decimal, Some, None, Option, refl, arith, length-append}
use Rattle.std.specs.List.{AllByRecursion}
use Rattle.std.proofs.lemmas.Fmt.{length-decimal-le}
use Rattle.sheets.specs.declared.faults.Sheet.{Sheet}
use Rattle.sheets.specs.declared.faults.Sheet.TheVariants.{Depot, Plan}
use Rattle.sheets.specs.declared.refusals.Refusal.{Refusal}
use Rattle.sheets.specs.declared.refusals.Refusal.TheVariants.{OverLimit, BadLine, BadLetter, FieldCount, NotItsForm, NotListed, Twice, AlwaysTrue, TableFull, NoGoal, StepSize, UnknownMove, RepeatedMove, NeedFalse, Contradictory, Disturbed, GoalFalse, UnknownNumber, BufferShort, NoMemory}
use Rattle.sheets.specs.Refusals.{details_of, number_of}
use Rattle.depots.specs.Kinds.{Meaning, plain_meaning, sight_meaning}
use Rattle.walkthroughs.specs.Depots.{State}
use Rattle.reports.specs.Accepted.{acceptance_report, standing_lines}
use Rattle.reports.specs.Laws.{AcceptancesFit, RefusalsFit}
use Rattle.reports.specs.Refused.{detailed_as, line_for, placed_as, refusal_line, shown_as, word_of}
use Rattle.reports.specs.Written.{written}
use Rattle.reports.proofs.Shortness.{ShortTexts, few-facts, few-steps, plain-short, sight-short}

-- two lengths, one behind the other
joined : (a b : List ℕ) (k m : ℕ) → length a ≤ k → length b ≤ m → length (a ++ b) ≤ k + m
joined a b k m p q = omega (arith, length-append a b)

-- a line for a fact that stands
one-line : (b : Bool) (text : List ℕ) → length text ≤ 53 → length (cond b (84 ∷ 9 ∷ (text ++ (10 ∷ []))) []) ≤ 56
one-line true text short = omega (arith, length-append text (10 ∷ []))
one-line false text short = omega arith

lines-fit : (n : ℕ) (s : State) (texts : List (List ℕ)) → AllByRecursion (λ text. length text ≤ 53) texts → length (standing_lines n s texts) ≤ 56 * length texts
lines-fit n s [] short = omega arith
lines-fit n s (text ∷ texts) short =
    let both = joined _ _ _ _ (one-line (s n) text short.0) (lines-fit (suc n) s texts short.1) in
    omega (arith, both)

counted : (steps : ℕ) → steps ≤ 64 → length (decimal steps) ≤ 2
counted steps few = length-decimal-le 2 steps (omega arith) (omega arith) (omega arith)

first-line : (d : List ℕ) → length d ≤ 2 → length (written (codes "OK" ∷ d ∷ [])) ≤ 6
first-line d short = omega (arith, length-append d (10 ∷ []))

accepted-length : (steps : ℕ) (texts : List (List ℕ)) (s : State) → steps ≤ 64 → AllByRecursion (λ text. length text ≤ 53) texts → length (acceptance_report steps texts s) ≤ 6 + 56 * length texts
accepted-length steps texts s few short = joined (written (codes "OK" ∷ decimal steps ∷ [])) (standing_lines 1 s texts) 6 (56 * length texts) (first-line (decimal steps) (counted steps few)) (lines-fit 1 s texts short)

acceptances-fit : {F : Type 0} (m : Meaning F) → ShortTexts m → AcceptancesFit m
acceptances-fit m short depot plan t steps s read planned =
    let few = few-facts m short depot t read in
    let long = accepted-length (length steps) t.texts s (few-steps t.names plan steps planned) few.2 in
    omega (arith, long, few.0, few.1)

pub plain-fits : AcceptancesFit plain_meaning
plain-fits = acceptances-fit plain_meaning plain-short

pub sight-fits : AcceptancesFit sight_meaning
sight-fits = acceptances-fit sight_meaning sight-short

-- what a machine's number takes
digits-fit : (n : ℕ) → n < 2 ^ 64 → length (decimal n) ≤ 20
digits-fit n small = length-decimal-le 20 n (omega arith) (omega arith) small

number-small : (w : Refusal) → number_of w ≤ 19
number-small OverLimit = omega arith
number-small BadLine = omega arith
number-small BadLetter = omega arith
number-small FieldCount = omega arith
number-small (NotItsForm field) = omega arith
number-small (NotListed field) = omega arith
number-small (Twice field) = omega arith
number-small (AlwaysTrue field) = omega arith
number-small TableFull = omega arith
number-small NoGoal = omega arith
number-small StepSize = omega arith
number-small (UnknownMove place) = omega arith
number-small (RepeatedMove place) = omega arith
number-small (NeedFalse place) = omega arith
number-small (Contradictory g e f d) = omega arith
number-small (Disturbed set place part) = omega arith
number-small GoalFalse = omega arith
number-small UnknownNumber = omega arith
number-small BufferShort = omega arith
number-small NoMemory = omega arith

word-fits : (sheet : Option Sheet) → length (word_of sheet) ≤ 5
word-fits (Some Depot) = omega arith
word-fits (Some Plan) = omega arith
word-fits None = omega arith

detail-small : (l : List ℕ) → AllByRecursion (λ n. n < 2 ^ 64) l → (i : ℕ) → get_or l i 0 < 2 ^ 64
detail-small [] small i = omega arith
detail-small (n ∷ l) small zero = small.0
detail-small (n ∷ l) small (suc i) = detail-small l small.1 i

shown-fits : (o : Option (List ℕ)) → ((text : List ℕ) → o ≡ Some text → length text ≤ 240) → length (shown_as o) ≤ 243
shown-fits None short = omega arith
shown-fits (Some text) short = omega (arith, short text refl, length-append text (10 ∷ []))

-- a field and what follows it
field : (f rest : List ℕ) (k m : ℕ) → length f ≤ k → length rest ≤ m → length (f ++ (9 ∷ rest)) ≤ k + suc m
field f rest k m p q = omega (arith, length-append f (9 ∷ rest))

placed-fit : (number line : ℕ) (word more : List ℕ) → number ≤ 19 → length word ≤ 5 → line < 2 ^ 64 → length more ≤ 84 → length (placed_as number word line more) ≤ 117
placed-fit number line word more low short small rest =
    field (codes "NO") _ 2 114 (omega arith)
    (field (decimal number) _ 2 111 (length-decimal-le 2 number (omega arith) (omega arith) (omega arith))
    (field word _ 5 105 short
    (field (decimal line) more 20 84 (digits-fit line small) rest)))

detailed-fit : (l : List ℕ) → AllByRecursion (λ n. n < 2 ^ 64) l → length (detailed_as l) ≤ 84
detailed-fit l small =
    field _ _ 20 63 (digits-fit (get_or l 0 0) (detail-small l small 0))
    (field _ _ 20 42 (digits-fit (get_or l 1 0) (detail-small l small 1))
    (field _ _ 20 21 (digits-fit (get_or l 2 0) (detail-small l small 2))
    (joined (decimal (get_or l 3 0)) (10 ∷ []) 20 1 (digits-fit (get_or l 3 0) (detail-small l small 3)) (omega arith))))

pub refusals-fit : RefusalsFit
refusals-fit depot plan f line details shown =
    joined (refusal_line f) (shown_as (line_for depot plan f)) 117 243
    (placed-fit (number_of f.refusal) f.line (word_of f.sheet) (detailed_as (details_of f.refusal)) (number-small f.refusal) (word-fits f.sheet) line (detailed-fit (details_of f.refusal) details))
    (shown-fits (line_for depot plan f) shown)
