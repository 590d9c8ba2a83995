-- The report of a plan that is accepted. Assumes nothing.
use Rattle.std.specs.Prelude.{ℕ, suc, cond, List, [], ◌∷◌, ◌++◌, codes, decimal}
use Rattle.walkthroughs.specs.Depots.{State}
use Rattle.reports.specs.Written.{written}

-- A line for each listed fact that stands, with its text, in the order of the facts: of those from a number on.
abbrev pub standing_lines : ℕ → State → List (List ℕ) → List ℕ
standing_lines n s [] = []
standing_lines n s (text ∷ texts) = cond (s n) (written (codes "T" ∷ text ∷ [])) [] ++ standing_lines (suc n) s texts

-- The report of a plan of so many steps that is accepted: the count of its steps, and the facts that stand at its end.
abbrev pub acceptance_report : ℕ → List (List ℕ) → State → List ℕ
acceptance_report steps texts s = written (codes "OK" ∷ decimal steps ∷ []) ++ standing_lines 1 s texts
