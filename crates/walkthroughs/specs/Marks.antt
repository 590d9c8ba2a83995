-- Which facts are marked as standing. Assumes nothing.
use Rattle.std.specs.Prelude.{ℕ, Bool, false, cond, not, ◌&&◌, ◌==◌, nat_le}
use Rattle.formulas.specs.Truth.{stands_in}
use Rattle.walkthroughs.specs.declared.marks.Marks.{Marks}
use Rattle.walkthroughs.specs.Depots.{State}

-- A number that a mark can have: 1 to 128.
abbrev pub is_markable : ℕ → Bool
is_markable n = nat_le 1 n && nat_le n 128

-- Which facts stand by the marks; a number outside 1 to 128 does not.
unfoldable pub standing : Marks → State
standing marks n = cond (nat_le n 128) (stands_in marks.on n) false

-- The marks of no facts.
abbrev pub none_stand : State
none_stand n = false

-- The standing of one fact turned round; a number outside 1 to 128 turns nothing.
abbrev pub turned : State → ℕ → State
turned s n f = cond (f == n && is_markable n) (not (s f)) (s f)

-- The facts 1 to k stand as in the second state, the others as in the first.
abbrev pub moved_to : ℕ → State → State → State
moved_to k s t f = cond (nat_le 1 f && nat_le f k) (t f) (s f)
