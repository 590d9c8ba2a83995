use Rattle.std.proofs.Common.{rules, map, ap, ◌∙◌}
use Rattle.std.specs.Option.{option_map_or}
use Rattle.depots.specs.Tables.{move_of}
use Rattle.depots.specs.Wrong.{before_last}
use Rattle.depots.proofs.Viewed.{last_shown, told_or}
use Rattle.depots.proofs.depot.Depot.before_last.Goals as goal

pub returns : goal.returns
returns g c =
    told_or (λ x. move_of x.now) (λ v. v.effects_before) c.last.result 0 c.map_or.result _ c.map_or.ensures (λ b told. search rules)
    ∙ ap (λ o. option_map_or (λ v. v.effects_before) o 0) (last_shown (λ x. x.now) move_of c.last.result c.deref.result.now c.last.ensures.value)
    ∙ ap (λ l. before_last (map move_of l)) c.deref.ensures.value
