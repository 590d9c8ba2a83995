-- What is read of a field with a formula. Assumes nothing.
use Rattle.std.specs.Prelude.{◌≡◌, ℕ, ◌+◌, ◌≤◌, List, [], ◌∷◌, ◌++◌, Ok, Err, Result}
use Rattle.facts.specs.declared.names.NoFact.{NoFact}
use Rattle.formulas.specs.Formulas.{Formula}
use Rattle.formulas.specs.Reading.{Spells}
use Rattle.formulas.specs.Resolving.{Numbered}
use Rattle.formulas.specs.Shapes.{numbers}
use Rattle.formulas.specs.Spelling.{size_of}
use Rattle.depots.specs.declared.formula_field.NewFormula.{NewFormula}
use Rattle.depots.specs.declared.formula_field.SizedFormula.{SizedFormula}
use Rattle.depots.specs.declared.troubles.Trouble.{Trouble}
use Rattle.depots.specs.Tables.{Tables, with_formulas}
use Rattle.depots.specs.Wrong.{FormulaWrong, most_depth, most_size}

-- What a text was read as: the formula that it spells, with the numbers of its facts and its size, or what is wrong.
abbrev pub FormulaRead : (List ℕ → Result ℕ NoFact) → List ℕ → Result SizedFormula Trouble → Type 0
FormulaRead number text (Ok read) = (p : Formula (List ℕ)) × Spells most_depth text p × Numbered number p (numbers read.formula) × (read.size ≡ size_of p)
FormulaRead number text (Err trouble) = FormulaWrong number text trouble

-- A formula that was read is added to formulas that are so large together, and they do not become too large.
abbrev pub AddedTo : ℕ → SizedFormula → NewFormula → Type 0
AddedTo sum read new = (new.formula ≡ read.formula) × (new.total ≡ sum + read.size) × (sum + read.size ≤ most_size)

-- Tables with one formula more.
abbrev pub with_formula : {F : Type 0} → Tables F → NewFormula → Tables F
with_formula t new = with_formulas t (t.formulas ++ numbers new.formula ∷ []) new.total
