use Rattle.std.proofs.Common.{false, [], ◌∷◌, refl, ap, ◌∙◌, subst, inr}
use Rattle.std.specs.Result.{result_err}
use Rattle.sheets.specs.Faults.{Lowest}
use Rattle.facts.specs.Listed.{number_of_text}
use Rattle.depots.specs.Fields.{new_start}
use Rattle.depots.specs.Troubles.{LineFault}
use Rattle.depots.proofs.Returned.{only_told, handed_on}
use Rattle.depots.proofs.entries.start_fact.Goals as goal

pub returns-in_err-number : goal.returns-in_err-number
returns-in_err-number g c =
    let number = number_of_text g.K.Kind.alike (g.K.Kind.reading c.args.listed.now.names.now) c.args.listed.now.facts.now c.args.text.now in
    let w = c.in_err-number.field-0.0 in
    let told = ap result_err (c.new_start.ensures ∙ ap (new_start number) c.deref.ensures.value) in
    rw (handed_on c.from_residual.result w c.from_residual.ensures.1) (inr (subst (λ t. Lowest (LineFault (t ∷ []) false) w) told (only_told c.new_start.result c.map_err.result w c.map_err.ensures.cases c.in_err-number.was false)), refl)
