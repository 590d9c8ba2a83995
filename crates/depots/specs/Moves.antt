-- Which move has a name, which effects are a move's, and which formula is its need. Assumes nothing.
use Rattle.std.specs.Prelude.{ℕ, zero, suc, ◌-◌, List, [], ◌∷◌, take, drop, Option}
use Rattle.std.specs.Option.{option_map, option_map_or}
use Rattle.std.specs.Str.{bytes_eq}
use Rattle.sheets.specs.Listed.{first_from}
use Rattle.sheets.specs.Numbered.{entry_at}
use Rattle.depots.specs.Tables.{Effect, Move}

-- The number of the first of the listed names that is a text, counted from 1, if one is.
abbrev pub move_named : List (List ℕ) → List ℕ → Option ℕ
move_named names text = first_from (λ name. bytes_eq name text) 1 names

-- The effects of a move that has so many before its own: those up to the next move's, or all that follow.
abbrev pub own_effects : ℕ → List Move → List Effect → List Effect
own_effects before [] effects = drop before effects
own_effects before (next ∷ moves) effects = take (next.effects_before - before) (drop before effects)

-- The effects of the move with a number, counted from 1; no others have any.
abbrev pub effects_of : List Move → List Effect → ℕ → List Effect
effects_of moves effects zero = []
effects_of [] effects (suc n) = []
effects_of (v ∷ moves) effects (suc zero) = own_effects v.effects_before moves effects
effects_of (v ∷ moves) effects (suc (suc n)) = effects_of moves effects (suc n)

-- The need of the move with a number, by its formula number, if there is the move.
abbrev pub need_of : List Move → ℕ → Option ℕ
need_of moves n = option_map (λ v. v.need) (entry_at moves n)

-- How many effects stand before those of the move after the one with a number: of so many in all, where there is none.
abbrev pub end_of : List Move → ℕ → ℕ → ℕ
end_of moves all n = option_map_or (λ v. v.effects_before) (entry_at moves (suc n)) all
