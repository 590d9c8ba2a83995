-- The names that a sheet lists, as texts. Assumes nothing.
use Rattle.std.specs.Prelude.{ℕ, List, vec_items}
use Rattle.facts.specs.declared.names.Names.{Names}

-- The texts of the listed zones.
abbrev pub zones_of : Names → List (List ℕ)
zones_of names = vec_items names.zones

-- The texts of the listed matters.
abbrev pub matters_of : Names → List (List ℕ)
matters_of names = vec_items names.matters

-- The zones and matters that a sheet lists.
pub record Listing : Type 0 where
  pub zones : List (List ℕ)
  pub matters : List (List ℕ)

-- The texts of names that are kept.
abbrev pub listing_of : Names → Listing
listing_of names = record { zones = zones_of names; matters = matters_of names }
