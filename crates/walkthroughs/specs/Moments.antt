-- A depot at a moment, as the rules of a step have it. Assumes nothing.
use Rattle.facts.specs.declared.kinds.Kind.{Ghosts}
use Rattle.depots.specs.Tables.{tables_of}
use Rattle.formulas.specs.Truth.{stands_in}
use Rattle.walkthroughs.specs.declared.moment.Moment.{Moment}
use Rattle.walkthroughs.specs.Depots.{Depot, State}
use Rattle.walkthroughs.specs.Ruled.{ruled}

-- Its depot.
abbrev pub depot_of : {K F : Type 0} {kind : Ghosts K F} → Moment K F kind → Depot
depot_of {kind = kind} m = ruled kind.carrying (tables_of m.depot.now)

-- Which facts stand.
abbrev pub state_of : {K F : Type 0} {kind : Ghosts K F} → Moment K F kind → State
state_of m = stands_in m.row.now

-- What the rules say of its depot and of which facts stand.
abbrev pub at {ℓ} : {K F : Type 0} {kind : Ghosts K F} {X : Type ℓ} → Moment K F kind → (Depot → State → X) → X
at m says = says (depot_of m) (state_of m)
