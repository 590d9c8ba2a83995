-- What a line does to the tables of a depot. Assumes nothing.
use Rattle.std.specs.Prelude.{◌≡◌, Bool, ◌⊎◌, List, Option, Result, MatchResult}
use Rattle.sheets.specs.declared.refusals.Refusal.{Refusal}
use Rattle.sheets.specs.declared.refusals.Refusal.TheVariants.{NoMemory}
use Rattle.sheets.specs.Faults.{Lowest}
use Rattle.depots.specs.declared.troubles.Trouble.{Trouble}
use Rattle.depots.specs.Troubles.{LineFault, Faultless}

-- A line is taken where nothing is wrong with it, unless memory fails, and then the tables have grown; where something
-- is wrong, the lowest is told. A line that is not taken leaves the tables as they were.
abbrev pub Taken : {X : Type 0} → List (Option Trouble) → Bool → Type 0 → Type 0 → Result X Refusal → Type 0
Taken ts full Grown Kept r = MatchResult r (λ _. Faultless ts full × Grown) (λ w. (((w ≡ NoMemory) × Faultless ts full) ⊎ Lowest (LineFault ts full) w) × Kept)
