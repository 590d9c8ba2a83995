use Rattle.std.proofs.Common.{◌≡◌, rules, ap, ◌∙◌}
use Rattle.std.specs.Option.{option_map}
use Rattle.sheets.specs.Numbered.{entry_at}
use Rattle.depots.specs.Tables.{move_of}
use Rattle.depots.proofs.Viewed.{entry_shown}
use Rattle.depots.proofs.depot.Depot.need_of.Goals as goal

pub returns : goal.returns
returns g c =
    let entry = c.entry_at.ensures ∙ ap (λ l. entry_at l c.args.number) c.deref.ensures.value in
    let need : c.map.result ≡ option_map (λ v. v.need) (option_map (λ x. move_of x.now) c.entry_at.result) = search rules in
    need ∙ ap (option_map (λ v. v.need)) (entry_shown (λ x. x.now) move_of c.entry_at.result _ c.args.number entry)
