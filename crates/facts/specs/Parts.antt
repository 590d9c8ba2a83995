-- The parts of a sight fact's text: watchers, and last the matter. Assumes nothing.
use Rattle.std.specs.Prelude.{ℕ, Bool, false, cond, ◌&&◌, ◌||◌, List, [], ◌∷◌, length, Some, None, codes, Option, nat_le, slice_index_or}
use Rattle.std.specs.Option.{option_map}
use Rattle.sheets.specs.Listed.{place_of}
use Rattle.sheets.specs.Names.{is_all, is_name}
use Rattle.sheets.specs.Pieces.{pieces}
use Rattle.facts.specs.declared.sighted.Watcher.{Watcher}
use Rattle.facts.specs.declared.sighted.Watcher.TheVariants.{All, Zone}

-- The parts of a text, which full stops keep apart.
abbrev pub parts_of : List ℕ → List (List ℕ)
parts_of text = pieces 46 text

-- A watcher's part is the word for every zone or has the form of a name.
abbrev pub is_watcher : List ℕ → Bool
is_watcher part = is_all part || is_name part

-- Every part but the last is a watcher's, and the last has the form of a name.
abbrev pub fitting : List (List ℕ) → Bool
fitting [] = false
fitting (p ∷ []) = is_name p
fitting (p ∷ q ∷ ps) = is_watcher p && fitting (q ∷ ps)

-- The form of a fact: at most five watchers and then a matter.
abbrev pub formed : List (List ℕ) → Bool
formed parts = nat_le (length parts) 6 && fitting parts

-- The watcher that a part names, if its zone is listed.
abbrev pub watcher_of : List (List ℕ) → List ℕ → Option Watcher
watcher_of zones part = cond (is_all part) (Some All) (option_map Zone (place_of part zones))

-- A watcher before other watchers, where all of them are listed.
abbrev pub followed : Option Watcher → Option (List Watcher) → Option (List Watcher)
followed None ws = None
followed (Some w) ws = option_map (λ l. w ∷ l) ws

-- The watchers that all parts but the last name, if every zone is listed.
abbrev pub watchers_in : List (List ℕ) → List (List ℕ) → Option (List Watcher)
watchers_in zones [] = Some []
watchers_in zones (p ∷ []) = Some []
watchers_in zones (p ∷ q ∷ ps) = followed (watcher_of zones p) (watchers_in zones (q ∷ ps))

-- The watchers that some parts name, if every zone is listed.
abbrev pub watchers_named : List (List ℕ) → List (List ℕ) → Option (List Watcher)
watchers_named zones [] = Some []
watchers_named zones (p ∷ ps) = followed (watcher_of zones p) (watchers_named zones ps)

-- The part of the matter.
abbrev pub last_of : List (List ℕ) → List ℕ
last_of [] = []
last_of (p ∷ []) = p
last_of (p ∷ q ∷ ps) = last_of (q ∷ ps)

-- The part that names a watcher.
abbrev pub part_for : List (List ℕ) → Watcher → List ℕ
part_for zones All = codes "all"
part_for zones (Zone z) = slice_index_or zones z []
