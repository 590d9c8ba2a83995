-- The letters that begin the lines of a depot sheet, and where each may come. Assumes nothing.
use Rattle.std.specs.Prelude.{◌≡◌, ℕ, ◌≤◌, Bool, true, cond, ◌&&◌, ◌⊎◌, List, [], ◌∷◌, Some, None, Option, ◌==◌, nat_le}
use Rattle.sheets.specs.declared.letters.Letter.{Letter}
use Rattle.sheets.specs.declared.letters.Letter.TheVariants.{Kind, Zone, Matter, Fact, Start, Move, Effect, Goal}

-- The byte by which a letter is written: a row for each, as in the order below, since no rule gives one from another.
abbrev pub byte_of : Letter → ℕ
byte_of Kind = 75
byte_of Zone = 90
byte_of Matter = 80
byte_of Fact = 70
byte_of Start = 73
byte_of Move = 77
byte_of Effect = 69
byte_of Goal = 71

-- The order in which the letters come.
abbrev pub order_of : Letter → ℕ
order_of Kind = 1
order_of Zone = 2
order_of Matter = 3
order_of Fact = 4
order_of Start = 5
order_of Move = 6
order_of Effect = 7
order_of Goal = 8

-- The order of the letter right above a line, and 0 above line 1.
abbrev pub order_above : Option Letter → ℕ
order_above None = 0
order_above (Some l) = order_of l

-- How many fields a line with a letter has, the letter among them.
abbrev pub fields_of : Letter → ℕ
fields_of Move = 3
fields_of Effect = 4
fields_of l = 2

-- The line above has a letter from one to another, in their order.
abbrev pub among : Option Letter → Letter → Letter → Bool
among above first last = nat_le (order_of first) (order_above above) && nat_le (order_above above) (order_of last)

-- Which letters may stand right above each, by the table; `MayCome` says the same in words.
abbrev pub may_come : Option Letter → Bool → Letter → Bool
may_come above sight Kind = order_above above == 0
may_come above sight Zone = sight && among above Kind Zone
may_come above sight Matter = among above Kind Matter
may_come above sight Fact = among above Kind Fact
may_come above sight Start = among above Kind Start
may_come above sight Move = among above Kind Effect
may_come above sight Effect = among above Move Effect
may_come above sight Goal = among above Kind Effect

-- The first of some letters that a byte writes.
abbrev pub written_by : ℕ → List Letter → Option Letter
written_by b [] = None
written_by b (l ∷ ls) = cond (b == byte_of l) (Some l) (written_by b ls)

-- The letter that a first field is: just one byte, which writes a letter.
abbrev pub letter_of : List ℕ → Option Letter
letter_of [] = None
letter_of (b ∷ []) = written_by b (Kind ∷ Zone ∷ Matter ∷ Fact ∷ Start ∷ Move ∷ Effect ∷ Goal ∷ [])
letter_of (b ∷ c ∷ bs) = None

-- A letter, if it may come.
abbrev pub permitted : Option Letter → Bool → Option Letter → Option Letter
permitted above sight None = None
permitted above sight (Some l) = cond (may_come above sight l) (Some l) None

-- Two letters are one.
abbrev pub Is : Letter → Letter → Type 0
Is l m = order_of l ≡ order_of m

-- Which letter may come right below a line with another.
pub record MayFollow (above l : Letter) : Type 0 where
  -- they come in their order, though a move may follow an effect
  pub in_order : (order_of above ≤ order_of l) ⊎ (Is above Effect × Is l Move)
  -- the kind is named once
  pub kind_once : Is l Kind → ⊥
  -- nothing comes after the goal
  pub goal_last : Is above Goal → ⊥
  -- an effect belongs to the move above it
  pub effect_of_move : Is l Effect → Is above Move ⊎ Is above Effect

-- Which letter may come below the lines above: on line 1 the kind alone, and zones only in a sheet of the sight kind.
abbrev pub MayCome : Option Letter → Bool → Letter → Type 0
MayCome None sight l = Is l Kind
MayCome (Some above) sight l = MayFollow above l × (Is l Zone → sight ≡ true)
