use Rattle.std.specs.Iterator.Adapters.{enumerate_source, enumerate_count}
use Rattle.depots.specs.Kinds.{meaning_of}
use Rattle.depots.specs.Tables.{tables_of}
use Rattle.depots.proofs.Walk.{Walked}
use Rattle.depots.proofs.depot.Depot.read_lines.Given as goal

abbrev pub invariant-loop-i : goal.invariant-loop-i
invariant-loop-i g l = Walked (meaning_of g.K.Kind g.K.TextKind.reading_under) l.sheet (enumerate_source l.i-iterator).rest.now (enumerate_count l.i-iterator) l.above (tables_of l.self)
