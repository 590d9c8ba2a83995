-- The parts of a list of facts, gathered one after the other. Assumes nothing.
use Rattle.std.proofs.Common.{◌≡◌, ℕ, suc, ◌+◌, ◌≤◌, true, false, List, [], ◌∷◌, ◌++◌, map, length, Some, None, Option, Ok, Err, Result, sym, refl, ap, ◌∙◌}
use Rattle.std.proofs.lemmas.Bool.{both_ways}
use Rattle.std.proofs.lemmas.List.Folds.{list_all-map}
use Rattle.std.specs.List.{list_all}
use Rattle.facts.specs.declared.names.NoFact.{NoFact}
use Rattle.facts.specs.declared.names.NoFact.TheVariants as none
use Rattle.facts.specs.Numbering.{has_form}
use Rattle.depots.specs.declared.troubles.Trouble.{Trouble}
use Rattle.depots.specs.declared.troubles.Trouble.TheVariants.{NotItsForm, NotListed}
use Rattle.depots.specs.Settings.{joined_to, gathered}

-- the numbers that were read, and the parts still to come, come to
abbrev pub and_then : List ℕ → Result (List ℕ) Trouble → Result (List ℕ) Trouble
and_then ns (Ok ms) = Ok (ns ++ ms)
and_then ns (Err t) = Err t

-- a part that is not listed is told, unless a part after it has not its form
past_number : (n : ℕ) (rest : Result (List ℕ) Trouble) → joined_to (Err none.NotListed) (joined_to (Ok n) rest) ≡ joined_to (Err none.NotListed) rest
past_number n (Ok ms) = refl
past_number n (Err t) = refl

past_unlisted : (rest : Result (List ℕ) Trouble) → joined_to (Err none.NotListed) (joined_to (Err none.NotListed) rest) ≡ joined_to (Err none.NotListed) rest
past_unlisted (Ok ms) = refl
past_unlisted (Err t) = refl

unlisted_told : (rs : List (Result ℕ NoFact)) → list_all has_form rs ≡ true → joined_to (Err none.NotListed) (gathered rs) ≡ Err NotListed
unlisted_told [] formed = refl
unlisted_told (Ok n ∷ rs) formed = past_number n (gathered rs) ∙ unlisted_told rs formed
unlisted_told (Err none.NotListed ∷ rs) formed = past_unlisted (gathered rs) ∙ unlisted_told rs formed
unlisted_told (Err none.NotItsForm ∷ rs) formed = absurd (both_ways false refl formed)

-- a part that has not its form is told, wherever it stands
formless_told : (rs : List (Result ℕ NoFact)) → list_all has_form rs ≡ false → gathered rs ≡ Err NotItsForm
formless_told [] formless = absurd (both_ways true formless refl)
formless_told (Ok n ∷ rs) formless = ap (joined_to (Ok n)) (formless_told rs formless)
formless_told (Err none.NotListed ∷ rs) formless = ap (joined_to (Err none.NotListed)) (formless_told rs formless)
formless_told (Err none.NotItsForm ∷ rs) formless = refl

-- how many bytes are still to be cut
abbrev pub left : Option (List ℕ) → ℕ
left None = 0
left (Some bs) = suc (length bs)

-- the numbers were read so far, and the rest are the parts still to come
pub record Gathering (number : List ℕ → Result ℕ NoFact) (parts : List (List ℕ)) (ns : List ℕ) (rest : List (List ℕ)) : Type 0 where
  pub whole : and_then ns (gathered (map number rest)) ≡ gathered (map number parts)
  pub room : length ns + length rest ≤ 8

module _ (number : List ℕ → Result ℕ NoFact) (parts : List (List ℕ)) where
  -- a part that is not listed, before others
  pub before_formed : list_all (λ part. has_form (number part)) parts ≡ true → joined_to (Err none.NotListed) (gathered (map number parts)) ≡ Err NotListed
  before_formed formed = unlisted_told (map number parts) (list_all-map has_form number parts ∙ formed)

  pub before_formless : list_all (λ part. has_form (number part)) parts ≡ false → joined_to (Err none.NotListed) (gathered (map number parts)) ≡ Err NotItsForm
  before_formless is = ap (joined_to (Err none.NotListed)) (formless_told (map number parts) (list_all-map has_form number parts ∙ is))

  -- what is told of a part goes for the whole list
  pub told_of : (ns : List ℕ) (rest : List (List ℕ)) → Gathering number parts ns rest → (part : List ℕ) (more : List (List ℕ)) → rest ≡ part ∷ more → (why : NoFact) → number part ≡ Err why → (t : Trouble) → Err t ≡ joined_to (Err why) (gathered (map number more)) → gathered (map number parts) ≡ Err t
  told_of ns rest now part more next why is t told = sym now.whole ∙ ap (λ ps. and_then ns (gathered (map number ps))) next ∙ ap (λ y. and_then ns (joined_to y (gathered (map number more)))) is ∙ ap (and_then ns) (sym told)
