-- Which listed fact a text is, by what a sheet lists. Assumes nothing.
use Rattle.std.specs.Prelude.{ℕ, Bool, true, false, List, Ok, Err, Result}
use Rattle.facts.specs.declared.kinds.Kind.{Ghosts}
use Rattle.facts.specs.declared.listed_facts.ListedFacts.{ListedFacts}
use Rattle.facts.specs.declared.names.NoFact.{NoFact}
use Rattle.facts.specs.declared.names.NoFact.TheVariants as no_fact
use Rattle.facts.specs.Listed.{number_of_text}

-- The number of the listed fact that a text is, read as the kind reads it under the listed names.
abbrev pub number_under : {K F : Type 0} (kind : Ghosts K F) → ListedFacts K F → List ℕ → Result ℕ NoFact
number_under kind listed = number_of_text kind.alike (kind.reading listed.names.now) listed.facts.now

-- A text has the form of a fact, be it listed or not.
abbrev pub has_form : Result ℕ NoFact → Bool
has_form (Ok n) = true
has_form (Err no_fact.NotItsForm) = false
has_form (Err no_fact.NotListed) = true
