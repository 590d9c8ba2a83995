-- The sight kind: a fact is up to five watchers and then a matter. Assumes nothing.
use Rattle.std.specs.Prelude.{◌≡◌, ℕ, Bool, cond, ◌&&◌, List, [], ◌∷◌, ◌++◌, map, Some, None, Ok, Err, Option, Result, ◌==◌, slice_index_or}
use Rattle.std.specs.List.{join_with_byte}
use Rattle.sheets.specs.Listed.{place_of}
use Rattle.facts.specs.declared.names.NoFact.{NoFact}
use Rattle.facts.specs.declared.names.NoFact.TheVariants.{NotItsForm, NotListed}
use Rattle.facts.specs.declared.short_list.ShortList.{ShortList}
use Rattle.facts.specs.declared.sighted.SightFact.{SightFact}
use Rattle.facts.specs.declared.sighted.Watcher.{Watcher}
use Rattle.facts.specs.declared.sighted.Watcher.TheVariants.{All}
use Rattle.facts.specs.Parts.{parts_of, formed, watchers_in, last_of, part_for}
use Rattle.facts.specs.ShortLists.{entries_of, short_list}
use Rattle.facts.specs.Watchers.{same_watchers, carries_by, CarriesBy, idle}

-- The watchers of a fact, in their order.
abbrev pub watchers_of : SightFact → List Watcher
watchers_of f = entries_of f.watchers

-- These watchers in a short list, where each place left holds `all`.
abbrev pub watcher_list : List Watcher → ShortList Watcher 5
watcher_list = short_list All

-- The fact with these watchers, of which there are at most five, and this matter.
abbrev pub fact_of : List Watcher → ℕ → SightFact
fact_of ws m = record { watchers = watcher_list ws; matter = m }

-- The fact of watchers and a matter, if every zone and the matter are listed.
abbrev pub sight_fact : Option (List Watcher) → Option ℕ → Result SightFact NoFact
sight_fact None m = Err NotListed
sight_fact (Some ws) None = Err NotListed
sight_fact (Some ws) (Some m) = Ok (fact_of ws m)

-- The fact that a text is. What has not the form of a fact is told before what is not listed.
abbrev pub sight_reading : List (List ℕ) → List (List ℕ) → List ℕ → Result SightFact NoFact
sight_reading zones matters text = cond (formed (parts_of text)) (sight_fact (watchers_in zones (parts_of text)) (place_of (last_of (parts_of text)) matters)) (Err NotItsForm)

-- Two facts are the same if they have the same matter, and the same watchers in the same order.
abbrev pub sight_same : SightFact → SightFact → Bool
sight_same a b = a.matter == b.matter && same_watchers (watchers_of a) (watchers_of b)

-- A fact carries facts of its own matter, as its watchers have it.
abbrev pub sight_carries : SightFact → SightFact → Bool
sight_carries a b = a.matter == b.matter && carries_by (watchers_of a) (watchers_of b)

-- The same in words.
abbrev pub Carries : SightFact → SightFact → Type 0
Carries a b = (a.matter ≡ b.matter) × CarriesBy (watchers_of a) (watchers_of b)

-- A fact is always true if its watchers say what is true anyway, whatever the matter.
abbrev pub sight_certain : SightFact → Bool
sight_certain f = idle (watchers_of f)

-- The text of a fact.
abbrev pub sight_spelled : List (List ℕ) → List (List ℕ) → SightFact → List ℕ
sight_spelled zones matters f = join_with_byte 46 (map (part_for zones) (watchers_of f) ++ slice_index_or matters f.matter [] ∷ [])
