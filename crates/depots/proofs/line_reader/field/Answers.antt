use Rattle.std.proofs.Common.{refl, ap, ◌∙◌}
use Rattle.depots.proofs.Added.{field_there}
use Rattle.depots.proofs.line_reader.field.Goals as goal

pub returns : goal.returns
returns c = ap (λ x. x.now) c.unwrap_or.ensures ∙ field_there _ c.args.index c.piece.result _ refl c.piece.ensures
