use Rattle.depots.specs.Kinds.{meaning_of}
use Rattle.depots.specs.Tables.{tables_of}
use Rattle.depots.specs.Wrong.{shown_fields}
use Rattle.depots.proofs.Listings.{matter_line}
use Rattle.depots.proofs.depot.Depot.take_matter.Goals as goal

pub returns : goal.returns
returns g c =
    let names = c.args.self.now.names.matters in
    matter_line (meaning_of g.K.Kind g.K.TextKind.reading_under) (tables_of c.args.self.now) (shown_fields c.args.fields) c.list_name.result _ _ _ names.ok.0 c.list_name.ensures
