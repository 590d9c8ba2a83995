-- What is asked of the facts that a sheet lists, whatever their kind. Assumes nothing.
use Rattle.std.specs.Prelude.{ℕ, Bool, ◌||◌, List, [], ◌∷◌, Some, None, Ok, Err, Option, Result}
use Rattle.sheets.specs.Listed.{first_from}
use Rattle.facts.specs.declared.names.NoFact.{NoFact}
use Rattle.facts.specs.declared.names.NoFact.TheVariants.{NotListed}

-- A number if there is one.
abbrev pub or_unlisted : Option ℕ → Result ℕ NoFact
or_unlisted None = Err NotListed
or_unlisted (Some n) = Ok n

-- The number of what was read: that of the first listed fact that is the same, counted from 1.
abbrev pub numbered : {F : Type 0} → (F → F → Bool) → Result F NoFact → List F → Result ℕ NoFact
numbered same (Err why) facts = Err why
numbered same (Ok f) facts = or_unlisted (first_from (same f) 1 facts)

-- Which listed fact a text is, by its number.
abbrev pub number_of_text : {F : Type 0} → (F → F → Bool) → (List ℕ → Result F NoFact) → List F → List ℕ → Result ℕ NoFact
number_of_text same read facts text = numbered same (read text) facts

-- A row in which the mark at the place of each fact is settled by the mark there and the fact, as far as both reach; what is left of the row stays.
abbrev pub remarked : {F : Type 0} → (Bool → F → Bool) → List F → List Bool → List Bool
remarked settle [] row = row
remarked settle (f ∷ fs) [] = []
remarked settle (f ∷ fs) (b ∷ row) = settle b f ∷ remarked settle fs row

-- A row with the answer of a test at the place of each fact.
abbrev pub marked : {F : Type 0} → (F → Bool) → List F → List Bool → List Bool
marked test = remarked (λ b f. test f)

-- A row with one more mark at the place of each fact that passes a test; other marks stay.
abbrev pub also_marked : {F : Type 0} → (F → Bool) → List F → List Bool → List Bool
also_marked test = remarked (λ b f. b || test f)
