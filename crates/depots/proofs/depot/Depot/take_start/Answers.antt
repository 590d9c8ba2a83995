use Rattle.std.proofs.Common.{ap}
use Rattle.facts.specs.Listed.{number_of_text}
use Rattle.depots.specs.Kinds.{meaning_of}
use Rattle.depots.specs.Tables.{tables_of}
use Rattle.depots.specs.Wrong.{shown_fields}
use Rattle.depots.proofs.Listings.{start_line}
use Rattle.depots.proofs.depot.Depot.take_start.Goals as goal

pub returns : goal.returns
returns g c =
    start_line (meaning_of g.K.Kind g.K.TextKind.reading_under) (tables_of c.args.self.now) (shown_fields c.args.fields) c.start_fact.result _ _ _ (ap (λ reads. number_of_text g.K.Kind.alike reads (tables_of c.args.self.now).facts c.args.fields.second.now) (g.met.K.TextKind.goes_by_texts c.args.self.now.names)) (rw c.deref.ensures.value at c.start_fact.ensures)
