-- What the reading of a sheet asks of a kind. Assumes nothing.
use Rattle.std.specs.Prelude.{ℕ, Bool, List, codes, Result}
use Rattle.facts.specs.declared.kinds.Kind.{Ghosts}
use Rattle.facts.specs.declared.names.NoFact.{NoFact}
use Rattle.facts.specs.declared.plain.PlainFact.{PlainFact}
use Rattle.facts.specs.declared.sighted.SightFact.{SightFact}
use Rattle.facts.specs.Plain.{plain_certain, plain_reading, plain_same}
use Rattle.facts.specs.Sight.{sight_certain, sight_reading, sight_same}
use Rattle.facts.specs.Texts.{Listing}

-- The kind's word, the fact that a text is under the listed names, when two facts are the same, and which are always true.
pub record Meaning (F : Type 0) : Type 0 where
  pub wording : List ℕ
  pub reading : Listing → List ℕ → Result F NoFact
  pub alike : F → F → Bool
  pub certain : F → Bool

-- A meaning of its four parts.
abbrev pub meaning : {F : Type 0} → List ℕ → (Listing → List ℕ → Result F NoFact) → (F → F → Bool) → (F → Bool) → Meaning F
meaning w r a c = record { wording = w; reading = r; alike = a; certain = c }

-- The meaning that a kind has, by the fact that a text is under the texts of the listed names.
abbrev pub meaning_of : {K F : Type 0} → Ghosts K F → (Listing → List ℕ → Result F NoFact) → Meaning F
meaning_of kind reading = meaning kind.wording reading kind.alike kind.certain

-- The plain kind.
abbrev pub plain_meaning : Meaning PlainFact
plain_meaning = meaning (codes "plain") (λ names. plain_reading names.matters) plain_same plain_certain

-- The sight kind.
abbrev pub sight_meaning : Meaning SightFact
sight_meaning = meaning (codes "sight") (λ names. sight_reading names.zones names.matters) sight_same sight_certain
