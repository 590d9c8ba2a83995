use Rattle.std.proofs.Common.{◌≡◌, ◌+◌, length, rules, ap, sym, ◌∙◌}
use Rattle.std.proofs.lemmas.Iterator.{first_from_Range}
use Rattle.std.proofs.lemmas.List.{length-map}
use borrow.Author.Tests.{tests}
use Rattle.depots.specs.Tables.{effect_of, tables_of}
use Rattle.formulas.specs.Truth.{stands_in}
use Rattle.walkthroughs.specs.Depots.{reads}
use Rattle.walkthroughs.specs.Disturbance.{Otherwise}
use Rattle.walkthroughs.specs.Moments.{depot_of, state_of}
use Rattle.walkthroughs.proofs.Ruling.{lent_are}
use Rattle.walkthroughs.proofs.SetSearch.{FirstOther, part_first}
use Rattle.walkthroughs.proofs.moment.Moment.other_part.Goals as goal

pub returns : goal.returns
returns g c =
    let d = depot_of c.args.self.now in
    let s = state_of c.args.self.now in
    let t = stands_in c.args.after.now in
    let lent = c.effects_of.result.now in
    let first : FirstOther d s t c.args.number (length lent + 1) c.find.result = first_from_Range _ _ _ c.find.result (λ i. Otherwise d s t c.args.number i) (λ i. reads d t c.args.number i ≡ reads d s c.args.number i) c.find.ensures.ran (λ x q k. search (rules, tests)) (λ x q k. search (rules, tests)) in
    part_first d s t c.args.number (length lent + 1) (ap (λ k. k + 1) (sym (length-map lent effect_of) ∙ ap length (lent_are g.K.Kind.carrying (tables_of c.args.self.now.depot.now) c.args.number lent c.effects_of.ensures))) c.find.result first
