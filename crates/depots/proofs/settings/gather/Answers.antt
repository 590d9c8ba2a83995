use Rattle.std.proofs.Common.{sym, ap, ◌∙◌}
use Rattle.std.specs.Option.{option_map}
use Rattle.sheets.specs.Pieces.{following, pieces}
use Rattle.facts.specs.Numbering.{number_under}
use Rattle.depots.proofs.Gathered.{told_of}
use Rattle.depots.proofs.settings.gather.Goals as goal

pub returns-in-Err : goal.returns-in-Err
returns-in-Err g c =
    told_of (number_under g.K.Kind c.args.listed.now) (pieces 44 c.args.text.now) _ _ c.loop-rest.invariant _ _ (ap (λ o. following 44 (option_map (λ x. x.now) o)) c.in-Some.is ∙ c.cut.ensures.parts) _ (sym c.in-Err.ensures) _ c.told.ensures
