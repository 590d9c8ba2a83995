use Rattle.std.proofs.Common.{◌≡◌, ◌-◌, min, max, map, length, take, drop, sym, ap, ◌∙◌}
use Rattle.std.proofs.lemmas.List.{length-map}
use Rattle.depots.specs.Moves.{effects_of, end_of}
use Rattle.depots.specs.Tables.{effect_of, move_of, tables_of}
use Rattle.depots.proofs.Viewed.{cut_capped, effects_none, map-part, own_found}
use Rattle.depots.proofs.depot.Depot.effects_of.Goals as goal

pub returns-in_default : goal.returns-in_default
returns-in_default g c =
    let effects = (tables_of c.args.self.now).effects in
    effects_none c.deref.result.now effects c.args.number c.in_default.ensures ∙ ap (λ l. effects_of (map move_of l) effects c.args.number) c.deref.ensures.value

pub returns : goal.returns
returns g c =
    let t = tables_of c.args.self.now in
    let shown = c.effects-effects.result.now in
    let own = c.in-Some.listed.now in
    let before = own.numbers.effects_before in
    let first = c.min-first.result in
    let last = c.max-end.result in
    let count = sym (length-map shown effect_of) ∙ ap length c.effects-effects.ensures in
    let is-first : first ≡ min before (length t.effects) = c.min-first.ensures ∙ ap (min before) count in
    let is_last : last ≡ max (min c.effects_end.result (length t.effects)) first = c.max-end.ensures ∙ ap (λ n. max n first) (c.min.ensures ∙ ap (min c.effects_end.result) count) in
    map-part effect_of shown (last - first) first
    ∙ ap (λ l. take (last - first) (drop first l)) c.effects-effects.ensures
    ∙ cut_capped t.effects before c.effects_end.result first last is-first is_last
    ∙ ap (λ e. take (e - before) (drop before t.effects)) (c.effects_end.ensures ∙ ap (λ l. end_of (map move_of l) (length t.effects) c.args.number) (sym c.deref.ensures.value))
    ∙ own_found c.deref.result.now t.effects c.args.number own c.in-Some.ensures
    ∙ ap (λ l. effects_of (map move_of l) t.effects c.args.number) c.deref.ensures.value
