use Rattle.std.proofs.Common.{map, vec_items}
use Rattle.std.specs.Iterator.Adapters.{enumerate_source, enumerate_count}
use Rattle.depots.specs.Tables.{tables_of}
use Rattle.plans.specs.Plans.{moves_of}
use Rattle.plans.proofs.Walk.{Walked}
use Rattle.plans.proofs.plan_reader.read_plan.Given as goal

abbrev pub invariant-loop-i : goal.invariant-loop-i
invariant-loop-i g l =
    Walked (tables_of l.depot).names l.sheet (enumerate_source l.i-iterator).rest.now (enumerate_count l.i-iterator) (map moves_of (vec_items l.steps))
