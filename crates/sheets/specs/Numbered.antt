-- What is numbered from 1. Assumes nothing.
use Rattle.std.specs.Prelude.{ℕ, zero, suc, List, None, Option}
use Rattle.std.specs.List.{slice_get}

-- The entry with a number, counted from 1, if there is one.
abbrev pub entry_at : {X : Type 0} → List X → ℕ → Option X
entry_at entries zero = None
entry_at entries (suc n) = slice_get entries n
