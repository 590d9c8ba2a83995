-- The steps of a plan. Assumes nothing.
use Rattle.std.specs.Prelude.{ℕ, List, map, vec_items}
use Rattle.facts.specs.ShortLists.{entries_of}
use Rattle.plans.specs.declared.plan.Plan.{Plan}
use Rattle.plans.specs.declared.plan.Step.{Step}

-- The numbers of a step's moves, in the order of their places.
abbrev pub moves_of : Step → List ℕ
moves_of s = entries_of s.moves

-- The steps of a plan, each by the numbers of its moves.
abbrev pub steps_of : Plan → List (List ℕ)
steps_of p = map moves_of (vec_items p.steps)
