use Rattle.std.specs.Option.{option_map}
use Rattle.sheets.specs.Pieces.{following, pieces}
use Rattle.facts.specs.ShortLists.{entries_of}
use Rattle.depots.specs.Tables.{tables_of}
use Rattle.depots.proofs.Gathered.{left}
use Rattle.plans.proofs.Firsts.{NamesSoFar}
use Rattle.plans.proofs.step_line.named_moves.Given as goal

abbrev pub invariant-loop-rest : goal.invariant-loop-rest
invariant-loop-rest g l =
    NamesSoFar (tables_of l.depot).names (pieces 9 l.text) (entries_of l.moves) (following 9 (option_map (λ x. x.now) l.rest))

abbrev pub decreases-loop-rest : goal.decreases-loop-rest
decreases-loop-rest g l = left (option_map (λ x. x.now) l.rest)
