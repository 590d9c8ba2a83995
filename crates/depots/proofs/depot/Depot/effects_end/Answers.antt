use Rattle.std.proofs.Common.{rules, suc, length, sym, ap, ◌∙◌}
use Rattle.std.proofs.lemmas.List.{length-map}
use Rattle.std.specs.List.{slice_get}
use Rattle.std.specs.Option.{option_map, option_map_or}
use Rattle.depots.specs.Tables.{effect_of, move_of, tables_of}
use Rattle.depots.proofs.Viewed.{entry_shown, looked_up, told_or}
use Rattle.depots.proofs.depot.Depot.effects_end.Goals as goal

pub returns : goal.returns
returns g c =
    let next = looked_up (λ x. x.now) c.get.result c.deref.result.now c.args.number c.get.ensures.lookup ∙ ap (λ l. slice_get l c.args.number) c.deref.ensures.value in
    let shown = entry_shown (λ x. x.now) move_of c.get.result _ (suc c.args.number) next in
    let count = sym (length-map c.effects-all.result.now effect_of) ∙ ap length c.effects-all.ensures in
    told_or (λ x. move_of x.now) (λ v. v.effects_before) c.get.result (length c.effects-all.result.now) c.map_or.result _ c.map_or.ensures (λ b told. search rules)
    ∙ ap (option_map_or (λ v. v.effects_before) (option_map (λ x. move_of x.now) c.get.result)) count
    ∙ ap (λ o. option_map_or (λ v. v.effects_before) o (length (tables_of c.args.self.now).effects)) shown
