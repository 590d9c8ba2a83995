-- Lists of watchers: when they are the same, what carries what, and when one says what is true anyway. Assumes nothing.
use Rattle.std.specs.Prelude.{◌≡◌, ◌<◌, Bool, true, false, ◌||◌, ◌⊎◌, List, [], ◌∷◌, ◌++◌, length, ◌==◌}
use Rattle.std.specs.Cmp.Lexicographic.{pointwise}
use Rattle.facts.specs.declared.sighted.Watcher.{Watcher}
use Rattle.facts.specs.declared.sighted.Watcher.TheVariants.{All, Zone}

-- Two watchers are the same.
abbrev pub same_watcher : Watcher → Watcher → Bool
same_watcher All All = true
same_watcher All (Zone b) = false
same_watcher (Zone a) All = false
same_watcher (Zone a) (Zone b) = a == b

-- Two lists have the same watchers in the same order.
abbrev pub same_watchers : List Watcher → List Watcher → Bool
same_watchers = pointwise same_watcher

-- b is one or more watchers and then r.
abbrev pub above : List Watcher → List Watcher → Bool
above r [] = false
above r (w ∷ b) = same_watchers b r || above r b

-- a is `all` and then some r, and b is one or more watchers and then r.
abbrev pub carries_jointly : List Watcher → List Watcher → Bool
carries_jointly [] b = false
carries_jointly (All ∷ r) b = above r b
carries_jointly (Zone z ∷ r) b = false

-- A fact with the watchers a carries the fact of the same matter with the watchers b.
abbrev pub carries_by : List Watcher → List Watcher → Bool
carries_by a b = same_watchers a b || carries_jointly a b

-- The first list is `all` and then r, and the second one or more watchers and then r, for some r.
abbrev pub CarriesJointly : List Watcher → List Watcher → Type 0
CarriesJointly a b = (r ws : List Watcher) × (a ≡ All ∷ r) × (b ≡ ws ++ r) × (0 < length ws)

-- Carrying in words: the same watchers, or `all` and then what the other has one or more watchers before.
abbrev pub CarriesBy : List Watcher → List Watcher → Type 0
CarriesBy a b = (a ≡ b) ⊎ CarriesJointly a b

-- A watcher is the word for every zone.
abbrev pub is_every : Watcher → Bool
is_every All = true
is_every (Zone z) = false

-- One zone named twice running, or `all` after another watcher: what is said is true anyway.
abbrev pub idle : List Watcher → Bool
idle [] = false
idle (v ∷ []) = false
idle (v ∷ w ∷ ws) = (is_every w || same_watcher v w) || idle (w ∷ ws)

-- The same in words: somewhere a watcher v stands right before a watcher w that is `all`, or v again.
abbrev pub Idle : List Watcher → Type 0
Idle ws = (front back : List Watcher) × (v w : Watcher) × (ws ≡ front ++ v ∷ w ∷ back) × ((w ≡ All) ⊎ (v ≡ w))
