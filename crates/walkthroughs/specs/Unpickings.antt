-- Steps one after the other, and how they can be unpicked (serialized). Assumes nothing.
use Rattle.std.specs.Prelude.{◌≡◌, ℕ, ◌<◌, List, [], ◌∷◌, ◌++◌, map, length}
use Rattle.std.specs.List.{flat_map, AllByRecursion}
use Rattle.walkthroughs.specs.Depots.{Depot, State}
use Rattle.walkthroughs.specs.Firing.{after}
use Rattle.walkthroughs.specs.Lists.{SameMoves}
use Rattle.walkthroughs.specs.Steps.{Accepted}

-- Each step is accepted in its turn, and the last leaves the facts t.
abbrev pub Passes : Depot → State → List (List ℕ) → State → Type 0
Passes d s [] t = t ≡ s
Passes d s (moves ∷ steps) t = Accepted d s moves × Passes d (after d s moves) steps t

-- The moves of some steps, one after the other.
abbrev pub moves_of : List (List ℕ) → List ℕ
moves_of steps = flat_map (λ moves. moves) steps

-- An unpicking (a serialization): in the order of the steps it has, for each, one or more steps of at least one move,
-- which together list every move of it as often as it does and no other, in any grouping and order.
abbrev pub Unpicking : List (List ℕ) → List (List ℕ) → Type 0
Unpicking [] unpicked = unpicked ≡ []
Unpicking (moves ∷ steps) unpicked = (groups later : List (List ℕ)) × (unpicked ≡ groups ++ later) × (0 < length groups) × AllByRecursion (λ group. 0 < length group) groups × SameMoves (moves_of groups) moves × Unpicking steps later

-- Steps of one move each.
abbrev pub singles : List ℕ → List (List ℕ)
singles moves = map (λ m. m ∷ []) moves
