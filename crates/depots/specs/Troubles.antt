-- What can be wrong with the fields of a line, and which of it is told. Assumes nothing.
use Rattle.std.specs.Prelude.{◌≡◌, ◌≢◌, ℕ, ◌+◌, Bool, true, cond, ◌⊎◌, List, [], ◌∷◌, Some, None, Option, nat_le}
use Rattle.std.specs.Option.{option_map}
use Rattle.sheets.specs.declared.faults.Fault.{Fault}
use Rattle.sheets.specs.declared.faults.Sheet.{Sheet}
use Rattle.sheets.specs.declared.refusals.Refusal.{Refusal}
use Rattle.sheets.specs.declared.refusals.Refusal.TheVariants as told
use Rattle.sheets.specs.Refusals.{number_of}
use Rattle.depots.specs.declared.troubles.Trouble.{Trouble}
use Rattle.depots.specs.declared.troubles.Trouble.TheVariants.{NotItsForm, NotListed, Twice, AlwaysTrue}

-- The refusal of a line for a trouble with one of its fields.
abbrev pub refusal_at : Trouble → ℕ → Refusal
refusal_at NotItsForm field = told.NotItsForm field
refusal_at NotListed field = told.NotListed field
refusal_at Twice field = told.Twice field
refusal_at AlwaysTrue field = told.AlwaysTrue field

-- The refusal of a line for what is wrong with one of its fields, if anything is.
abbrev pub refusal_of : Option Trouble → ℕ → Option Refusal
refusal_of trouble field = option_map (λ t. refusal_at t field) trouble

-- Of two refusals the one with the lower number, and where the numbers are one, the first.
abbrev pub lower_of : Option Refusal → Option Refusal → Option Refusal
lower_of None second = second
lower_of (Some a) None = Some a
lower_of (Some a) (Some b) = cond (nat_le (number_of a) (number_of b)) (Some a) (Some b)

-- What is wrong with a line whose fields, from one on, have these troubles.
abbrev pub FieldFault : ℕ → List (Option Trouble) → Refusal → Type 0
FieldFault field [] w = ⊥
FieldFault field (t ∷ ts) w = (refusal_of t field ≡ Some w) ⊎ FieldFault (field + 1) ts w

-- What is wrong with a line whose fields from the second on have these troubles, and which takes a table over its limit
-- or not.
abbrev pub LineFault : List (Option Trouble) → Bool → Refusal → Type 0
LineFault ts full w = FieldFault 2 ts w ⊎ ((w ≡ told.TableFull) × (full ≡ true))

-- Nothing is wrong with such a line.
abbrev pub Faultless : List (Option Trouble) → Bool → Type 0
Faultless ts full = (w : Refusal) → LineFault ts full w → ⊥

-- A refusal at a line of a sheet, as a fault; that memory was wanting speaks of no sheet.
abbrev pub Placed : Sheet → ℕ → Refusal → Fault → Type 0
Placed sheet n w f = ((w ≡ told.NoMemory) × (f.sheet ≡ None) × (f.line ≡ 0) × (f.refusal ≡ told.NoMemory)) ⊎ ((w ≢ told.NoMemory) × (f.sheet ≡ Some sheet) × (f.line ≡ n) × (f.refusal ≡ w))
