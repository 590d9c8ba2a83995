-- What a line of a list of calls writes. Assumes nothing.
use Rattle.std.specs.Prelude.{ℕ, ◌^◌, cond, not, ◌&&◌, ◌==◌, List, [], ◌∷◌, length, map, Some, None, Option, codes, nat_lt}
use Rattle.std.specs.Option.{option_map}
use Rattle.std.specs.Str.{all_ascii_digits, bytes_eq, is_utf8}
use Rattle.std.specs.Str.Parse.{digits_value}
use Rattle.sheets.specs.Lines.{lines_of}
use Rattle.sheets.specs.Pieces.{pieces}
use Rattle.walkthroughs.specs.Runs.{Call}
use Rattle.walkthroughs.specs.Runs.Call.{look, step, truth}
use Rattle.replay.specs.declared.call_lines.OwnCall.{OwnCall}
use Rattle.replay.specs.declared.call_lines.OwnCall.TheVariants.{Look, Step, Truth}

-- The number that a word writes in decimal digits, if it is one that fits a machine number.
abbrev pub number_of : List ℕ → Option ℕ
number_of word = cond (not (length word == 0) && (all_ascii_digits word && nat_lt (digits_value 10 word) (2 ^ 64))) (Some (digits_value 10 word)) None

-- A first number and those that follow it, if all are there.
abbrev pub onto : Option ℕ → Option (List ℕ) → Option (List ℕ)
onto (Some n) ns = option_map (λ l. n ∷ l) ns
onto None ns = None

-- The numbers that some words write, if each writes one.
abbrev pub numbers_of : List (List ℕ) → Option (List ℕ)
numbers_of [] = Some []
numbers_of (w ∷ ws) = onto (number_of w) (numbers_of ws)

-- The number that the only one of some words writes.
abbrev pub only_number : List (List ℕ) → Option ℕ
only_number (w ∷ []) = number_of w
only_number ws = None

-- The call that a first word and those that follow it write, if they write one.
abbrev pub call_of_words : List (List ℕ) → Option Call
call_of_words [] = None
call_of_words (w ∷ ws) =
    cond (bytes_eq w (codes "step")) (option_map step (numbers_of ws)) (cond (bytes_eq w (codes "truth")) (option_map truth (only_number ws)) (cond (bytes_eq w (codes "look")) (option_map look (only_number ws)) None))

-- The call that a line writes, if it is text and its words, parted by single spaces, write one.
abbrev pub call_of_line : List ℕ → Option Call
call_of_line line = cond (is_utf8 line) (call_of_words (pieces 32 line)) None

-- A call that owns its numbers, as the rules of runs have it.
abbrev pub owned_call : OwnCall → Call
owned_call (Step moves) = step moves.items
owned_call (Truth n) = truth n
owned_call (Look f) = look f

-- What the lines of a list write, one after the other: a call or none.
abbrev pub calls_of_lines : List ℕ → List (Option Call)
calls_of_lines list = map (λ l. call_of_line l.text) (lines_of list)

-- What was read of some lines, as the rules of runs have it.
abbrev pub as_calls : List (Option OwnCall) → List (Option Call)
as_calls = map (option_map owned_call)

-- The calls among what some lines write.
abbrev pub some_calls : List (Option Call) → List Call
some_calls [] = []
some_calls (None ∷ os) = some_calls os
some_calls (Some c ∷ os) = c ∷ some_calls os
