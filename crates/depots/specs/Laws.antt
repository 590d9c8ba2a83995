-- What holds of every depot sheet. Assumes nothing.
use Rattle.std.specs.Prelude.{◌≡◌, ℕ, List}
use Rattle.sheets.specs.declared.refusals.Refusal.{Refusal}
use Rattle.depots.specs.Kinds.{Meaning}
use Rattle.depots.specs.Spelling.{DepotRead, DepotRefused}
use Rattle.depots.specs.Tables.{Tables}

-- A sheet fixes the answer: it spells one depot at the most, has one refusal at the most, and not both.
pub record SheetFixes {F : Type 0} (m : Meaning F) : Type 0 where
  pub one_depot : (s : List ℕ) (t u : Tables F) → DepotRead m s t → DepotRead m s u → t ≡ u
  pub one_refusal : (s : List ℕ) (n k : ℕ) (w v : Refusal) → DepotRefused m s n w → DepotRefused m s k v → (n ≡ k) × (w ≡ v)
  pub not_both : (s : List ℕ) (t : Tables F) (n : ℕ) (w : Refusal) → DepotRead m s t → DepotRefused m s n w → ⊥
