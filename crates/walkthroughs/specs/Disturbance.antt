-- When moves disturb each other (interference), said by orders and said by sets. Assumes nothing.
use Rattle.std.specs.Prelude.{◌≡◌, ℕ, ◌^◌, ◌<◌, false, not, List, ◌∷◌, ◌++◌, length}
use Rattle.walkthroughs.specs.Depots.{Depot, State, Listed, numbered, reads}
use Rattle.walkthroughs.specs.Firing.{after, one_by_one}
use Rattle.walkthroughs.specs.Lists.{SameMoves}
use Rattle.walkthroughs.specs.Sets.{in_set, chosen}

-- The move at a place of a step, counted from 1.
abbrev pub move_at : List ℕ → ℕ → ℕ
move_at moves place = numbered moves place 0

-- Moves are disturbed (they interfere) by an order: done one by one in it, they bring a move to its turn with a part that
-- reads otherwise than at the start.
pub record DisturbedByOrder (d : Depot) (s : State) (moves : List ℕ) : Type 0 where
  pub done : List ℕ
  pub move : ℕ
  pub rest : List ℕ
  pub part : ℕ
  pub order : SameMoves (done ++ move ∷ rest) moves
  pub otherwise : reads d (one_by_one d s done) move part ≡ not (reads d s move part)

-- Every order of the moves, done one by one, brings each move to its turn with all its parts reading as at the start.
abbrev pub AlikeInEveryOrder : Depot → State → List ℕ → Type 0
AlikeInEveryOrder d s moves = (done : List ℕ) (move : ℕ) (rest : List ℕ) → SameMoves (done ++ move ∷ rest) moves → (part : ℕ) → reads d (one_by_one d s done) move part ≡ reads d s move part

-- A part of a move reads otherwise at the state t than at s.
abbrev pub Otherwise : Depot → State → State → ℕ → ℕ → Type 0
Otherwise d s t m part = reads d t m part ≡ not (reads d s m part)

-- A part of the move at a place outside a set reads otherwise at t than at s.
pub record OtherAt (d : Depot) (s t : State) (moves : List ℕ) (set place part : ℕ) : Type 0 where
  pub placed : Listed place (length moves)
  pub outside : in_set set place ≡ false
  pub otherwise : Otherwise d s t (move_at moves place) part

-- A part of the move at a place outside a set reads otherwise after the moves of the set, judged at the start.
pub record SetDisturbs (d : Depot) (s : State) (moves : List ℕ) (set place part : ℕ) : Type 0 where
  pub known : set < 2 ^ length moves
  pub placed : Listed place (length moves)
  pub outside : in_set set place ≡ false
  pub otherwise : reads d (after d s (chosen set moves)) (move_at moves place) part ≡ not (reads d s (move_at moves place) part)

-- Some set of places disturbs a part of a move outside it.
abbrev pub DisturbedBySet : Depot → State → List ℕ → Type 0
DisturbedBySet d s moves = (set : ℕ) × (place : ℕ) × (part : ℕ) × SetDisturbs d s moves set place part
