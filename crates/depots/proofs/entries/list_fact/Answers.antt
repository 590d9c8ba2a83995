use Rattle.std.proofs.Common.{◌≡◌, leb, [], ◌∷◌, ◌++◌, Ok, vec_items, vec_len, sym, refl, ap, ◌∙◌, subst, inl, inr}
use Rattle.std.specs.Result.{result_err}
use Rattle.sheets.specs.declared.refusals.Refusal.TheVariants.{NoMemory}
use Rattle.sheets.specs.Faults.{Lowest}
use Rattle.depots.specs.Fields.{new_fact}
use Rattle.depots.specs.Troubles.{Faultless, LineFault}
use Rattle.depots.proofs.Fieldwise.{one-faultless, one-full}
use Rattle.depots.proofs.Grown.{grown}
use Rattle.depots.proofs.Returned.{IsOnly, handed_on, only_fine, only_told}
use Rattle.sheets.proofs.Handed.{value_kept}
use Rattle.depots.proofs.entries.list_fact.Given as given
use Rattle.depots.proofs.entries.list_fact.Goals as goal
use Rattle.depots.proofs.entries.list_fact.Goals.{In_ok-refuse_if_full}

-- what was read, of the facts that were listed
module _ (g : given.Over) (c : In_ok-refuse_if_full g) where
  listed : new_fact g.K.Kind.alike g.K.Kind.certain (g.K.Kind.reading c.args.names.now c.args.text.now) c.as_slice.result.now ≡ new_fact g.K.Kind.alike g.K.Kind.certain (g.K.Kind.reading c.args.names.now c.args.text.now) (vec_items c.args.facts.now)
  listed = ap (new_fact g.K.Kind.alike g.K.Kind.certain (g.K.Kind.reading c.args.names.now c.args.text.now)) c.as_slice.ensures.value

  read : new_fact g.K.Kind.alike g.K.Kind.certain (g.K.Kind.reading c.args.names.now c.args.text.now) (vec_items c.args.facts.now) ≡ Ok c.in_ok-fact.fact
  read = sym (c.new_fact.ensures ∙ listed) ∙ value_kept IsOnly c.new_fact.result c.map_err.result c.in_ok-fact.fact c.map_err.ensures.cases c.in_ok-fact.was

-- a line that was not refused is at no fault
right : (g : given.Over) (c : In_ok-refuse_if_full g) → Faultless (result_err (new_fact g.K.Kind.alike g.K.Kind.certain (g.K.Kind.reading c.args.names.now c.args.text.now) (vec_items c.args.facts.now)) ∷ []) (leb 128 (vec_len c.args.facts.now))
right g c = one-faultless _ (ap result_err (read g c)) _ (sym (ap (leb 128) c.len.ensures) ∙ c.in_ok-refuse_if_full.ensures)

pub returns-in_err-fact : goal.returns-in_err-fact
returns-in_err-fact g c =
    let w = c.in_err-fact.field-0.0 in
    let full = leb 128 (vec_len c.args.facts.now) in
    let listed = ap (new_fact g.K.Kind.alike g.K.Kind.certain (g.K.Kind.reading c.args.names.now c.args.text.now)) c.as_slice.ensures.value in
    rw (handed_on c.from_residual.result w c.from_residual.ensures.1) (inr (subst (λ t. Lowest (LineFault (result_err t ∷ []) full) w) (c.new_fact.ensures ∙ listed) (only_told c.new_fact.result c.map_err.result w c.map_err.ensures.cases c.in_err-fact.was full)), (refl, refl))

pub returns-in_err-refuse_if_full : goal.returns-in_err-refuse_if_full
returns-in_err-refuse_if_full g c =
    let full = leb 128 (vec_len c.args.facts.now) in
    let read = new_fact g.K.Kind.alike g.K.Kind.certain (g.K.Kind.reading c.args.names.now c.args.text.now) in
    let told = ap result_err (c.new_fact.ensures ∙ ap read c.as_slice.ensures.value) in
    rw (handed_on c.from_residual-in_err-refuse_if_full.result c.in_err-refuse_if_full.field-0.0 c.from_residual-in_err-refuse_if_full.ensures.1)
    (inr (subst (Lowest (LineFault (result_err (read (vec_items c.args.facts.now)) ∷ []) full)) (sym c.in_err-refuse_if_full.ensures.0) (one-full _ (only_fine c.new_fact.result c.map_err.result _ _ told c.map_err.ensures.cases c.in_ok-fact.was) full (sym (ap (leb 128) c.len.ensures) ∙ c.in_err-refuse_if_full.ensures.1))), (refl, refl))

pub returns-in_err-name : goal.returns-in_err-name
returns-in_err-name g c =
    rw (handed_on c.from_residual-in_err-name.result NoMemory c.from_residual-in_err-name.ensures.1) (inl (refl, right g (goal.at.returns-in_err-name g c).In_ok-refuse_if_full), (refl, refl))

pub returns-in_err-reserve : goal.returns-in_err-reserve
returns-in_err-reserve g c =
    rw (handed_on c.from_residual-in_err-reserve.result NoMemory c.from_residual-in_err-reserve.ensures.1) (inl (refl, right g (goal.at.returns-in_err-reserve g c).In_ok-refuse_if_full), (refl, c.reserve.ensures.items))

pub returns-in_err-push : goal.returns-in_err-push
returns-in_err-push g c =
    rw (handed_on c.from_residual-in_err-push.result NoMemory c.from_residual-in_err-push.ensures.1) (inl (refl, right g (goal.at.returns-in_err-push g c).In_ok-refuse_if_full), (c.in_err-push.ensures.items, c.reserve.ensures.items))

pub returns : goal.returns
returns g c =
    let at = (goal.at.returns g c).In_ok-refuse_if_full in
    let texts = vec_items c.args.texts.now in
    let longer = grown (vec_items c.reserve.new.self) (vec_items c.push-2.new.self) c.in_ok-name.name c.push-2.result _ c.push-2.ensures.items c.unwrap.ensures in
    let spelled = longer ∙ ap (λ l. l ++ c.in_ok-name.name ∷ []) c.reserve.ensures.items ∙ ap (λ t. texts ++ t ∷ []) c.in_ok-name.ensures in
    (right g at, (c.in_ok-fact.fact, read g at, c.in_ok-push.ensures.items, spelled))
