use Rattle.std.proofs.Common.{ap, ◌∙◌, rules}
use Rattle.formulas.specs.Shapes.{numbers}
use Rattle.sheets.specs.Numbered.{entry_at}
use Rattle.depots.proofs.Viewed.{entry_shown}
use Rattle.depots.proofs.depot.Depot.formula_at.Goals as goal

pub returns : goal.returns
returns g c =
    let shown = entry_shown (λ x. x.now) numbers c.entry_at.result _ c.args.number (c.entry_at.ensures ∙ ap (λ l. entry_at l c.args.number) c.deref.ensures.value) in
    search rules
