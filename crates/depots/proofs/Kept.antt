-- What a depot keeps, as its tables. Assumes nothing.
use Rattle.std.proofs.Common.{◌≡◌, ℕ, ◌+◌, Bool, true, false, cond, ◌||◌, List, [], ◌∷◌, map, length, is_some, Some, None, vec_items, vec_len, Option, Vec, sym, refl, ◌∙◌}
use Rattle.std.specs.declared.alloc.Global.{Global}
use Rattle.std.specs.List.{list_any, position}
use Rattle.std.specs.Option.{option_map}
use Rattle.std.specs.Str.{bytes_eq}
use Rattle.sheets.specs.Listed.{first_from, place_of}
use Rattle.std.proofs.lemmas.List.{length-map}
use Rattle.sheets.proofs.Sought.{first_from-map}
use Rattle.facts.proofs.Numbered.{no_number, number_at}
use Rattle.depots.specs.Moves.{move_named as number_named}
use Rattle.depots.specs.declared.depot.NamedMove.{NamedMove}

-- how many stand in a table, by what they stand for
pub count_of : {X Y : Type 0} (f : X → Y) (v : Vec X Global) (n : ℕ) → n ≡ vec_len v → n ≡ length (map f (vec_items v))
count_of f v n is = is ∙ v.ok.0 ∙ sym (length-map (vec_items v) f)

-- a text names a move that is listed
found : (b r : Bool) (o : Option ℕ) (n : ℕ) → r ≡ is_some o → (b || r) ≡ is_some (cond b (Some n) o)
found true r o n is = refl
found false r o n is = is

pub named_move : (text : List ℕ) (moves : List NamedMove) → list_any (λ m. bytes_eq m.name text) moves ≡ is_some (place_of text (map (λ m. m.name) moves))
named_move text moves = from 0 moves
  where
    from : (n : ℕ) (moves : List NamedMove) → list_any (λ m. bytes_eq m.name text) moves ≡ is_some (first_from (λ t. bytes_eq t text) n (map (λ m. m.name) moves))
    from n [] = refl
    from n (m ∷ moves) = found (bytes_eq m.name text) _ (first_from (λ t. bytes_eq t text) (n + 1) (map (λ m. m.name) moves)) n (from (n + 1) moves)

-- the number of what `position` finds is one more than its place
pub number_found : {X : Type 0} (test : X → Bool) (xs : List X) (r : Option ℕ) → r ≡ position test xs → option_map (λ n. n + 1) r ≡ first_from test 1 xs
number_found test xs None found = no_number test xs found
number_found test xs (Some n) found = number_at test xs n found

-- and so that of the first move with a name
pub number_of_named : (text : List ℕ) (moves : List NamedMove) (r : Option ℕ) → r ≡ position (λ m. bytes_eq m.name text) moves → option_map (λ n. n + 1) r ≡ number_named (map (λ m. m.name) moves) text
number_of_named text moves r found = number_found (λ m. bytes_eq m.name text) moves r found ∙ first_from-map (λ t. bytes_eq t text) (λ m. m.name) 1 moves
