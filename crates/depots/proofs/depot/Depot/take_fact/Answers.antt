use Rattle.std.proofs.Common.{◌≡◌, vec_items, arith}
use Rattle.depots.specs.Kinds.{meaning_of}
use Rattle.depots.specs.Tables.{tables_of}
use Rattle.depots.specs.Wrong.{shown_fields}
use Rattle.depots.proofs.Listings.{fact_line, few-facts}
use Rattle.depots.proofs.depot.Depot.take_fact.Goals as goal

pub returns : goal.returns
returns g c =
    fact_line (meaning_of g.K.Kind g.K.TextKind.reading_under) (tables_of c.args.self.now) (shown_fields c.args.fields) c.list_fact.result _ _ _ _ c.args.self.now.facts.ok.0 (rw (g.met.K.TextKind.goes_by_texts c.args.self.now.names) at c.list_fact.ensures)

pub invariant_of-self : goal.invariant_of-self
invariant_of-self g c =
    let facts = c.args.self.now.facts in
    let few = few-facts (meaning_of g.K.Kind g.K.TextKind.reading_under) (tables_of c.args.self.now) (shown_fields c.args.fields) (vec_items c.list_fact.new.facts) (vec_items c.list_fact.new.texts) _ facts.ok.0 c.args.self.now.few (vec_items c.list_fact.new.texts ≡ vec_items c.args.self.now.texts) c.list_fact.result (rw (g.met.K.TextKind.goes_by_texts c.args.self.now.names) at c.list_fact.ensures) in
    record { few = omega (arith, few, c.list_fact.new.facts.ok.0) }
