-- Tests of bytes. Assumes nothing.
use Rattle.std.specs.Prelude.{ℕ, Bool, List}
use Rattle.std.specs.List.{list_all}

-- Every byte of a text passes a test.
abbrev pub every : (ℕ → Bool) → List ℕ → Bool
every = list_all
