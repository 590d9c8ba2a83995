-- How a fact and its text tell each other. Assumes nothing.
use Rattle.std.specs.Prelude.{◌≡◌, ℕ, ◌+◌, ◌≤◌, Bool, List, length, Ok, Decides, Result}
use Rattle.facts.specs.declared.names.NoFact.{NoFact}
use Rattle.facts.specs.Parts.{parts_of}
use Rattle.facts.specs.Texts.{Listing}

-- The fact that a text is gives the text back.
abbrev pub ReadsBack : {F : Type 0} → (List ℕ → Result F NoFact) → (F → List ℕ) → Type 0
ReadsBack {F} reading spelled = (text : List ℕ) (f : F) → reading text ≡ Ok f → spelled f ≡ text

-- Two texts that are facts are the same fact exactly if they are equal.
abbrev pub SameByText : {F : Type 0} → (List ℕ → Result F NoFact) → (F → F → Bool) → Type 0
SameByText {F} reading same = (one other : List ℕ) (f g : F) → reading one ≡ Ok f → reading other ≡ Ok g → Decides (same f g) (one ≡ other)

-- A text that is a fact has at most so many watchers before its matter.
abbrev pub AtMost : {F : Type 0} → (List ℕ → Result F NoFact) → ℕ → Type 0
AtMost {F} reading most = (text : List ℕ) (f : F) → reading text ≡ Ok f → length (parts_of text) ≤ most + 1

-- Some text, under some names, is a fact that has so many.
abbrev pub Reached : {F : Type 0} → (Listing → List ℕ → Result F NoFact) → ℕ → Type 0
Reached {F} reading most = (listing : Listing) × (text : List ℕ) × (f : F) × (reading listing text ≡ Ok f) × (length (parts_of text) ≡ most + 1)
