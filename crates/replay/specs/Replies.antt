-- What is printed for a line of a list of calls. Assumes nothing.
use Rattle.std.specs.Prelude.{ℕ, true, false, List, [], ◌∷◌, ◌++◌, Some, None, Option, codes, decimal, drop, slice_index}
use Rattle.sheets.specs.Refusals.{number_of, details_of}
use Rattle.walkthroughs.specs.Runs.{Call}
use Rattle.walkthroughs.specs.declared.exchange.Answer.{Answer}
use Rattle.walkthroughs.specs.declared.exchange.Answer.TheVariants.{Changed, Refused, Told}

-- The four details of a refusal, each after a space.
abbrev pub spaced : List ℕ → List ℕ
spaced details =
    32 ∷ (decimal (slice_index details 0) ++ (32 ∷ (decimal (slice_index details 1) ++ (32 ∷ (decimal (slice_index details 2) ++ (32 ∷ (decimal (slice_index details 3) ++ (10 ∷ []))))))))

-- The line that tells an answer, or that a line writes no call and has none.
abbrev pub reply_line : Option Answer → List ℕ
reply_line None = codes "not a call\n"
reply_line (Some (Changed count)) = codes "ok " ++ (decimal count ++ (10 ∷ []))
reply_line (Some (Told true)) = codes "y\n"
reply_line (Some (Told false)) = codes "n\n"
reply_line (Some (Refused w)) = codes "NO " ++ (decimal (number_of w) ++ spaced (details_of w))

-- The first of some answers, if there is one.
abbrev pub first_answer : List (Option Answer) → Option Answer
first_answer [] = None
first_answer (a ∷ answers) = a

-- What is printed for what the lines of a list write: the answers stand in the order of the calls.
abbrev pub replies : List (Option Call) → List (Option Answer) → List ℕ
replies [] answers = []
replies (None ∷ lines) answers = reply_line None ++ replies lines answers
replies (Some c ∷ lines) answers = reply_line (first_answer answers) ++ replies lines (drop 1 answers)
