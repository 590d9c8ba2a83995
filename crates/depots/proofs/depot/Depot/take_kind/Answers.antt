use Rattle.std.proofs.Common.{sym}
use Rattle.depots.specs.Kinds.{meaning_of}
use Rattle.depots.specs.Tables.{tables_of}
use Rattle.depots.specs.Wrong.{shown_fields}
use Rattle.depots.proofs.Listings.{other_word}
use Rattle.depots.proofs.depot.Depot.take_kind.Goals as goal

pub returns-then-not-is_word : goal.returns-then-not-is_word
returns-then-not-is_word g c =
    other_word (meaning_of g.K.Kind g.K.TextKind.reading_under) (tables_of c.args.self.now) (shown_fields c.args.fields) (sym c.if-not-is_word.ensures) _ c.only.ensures
