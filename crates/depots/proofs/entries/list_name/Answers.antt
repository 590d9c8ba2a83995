use Rattle.std.proofs.Common.{◌≡◌, leb, [], ◌∷◌, ◌++◌, vec_items, vec_len, sym, refl, ap, ◌∙◌, subst, inl, inr}
use Rattle.std.specs.Result.{result_err}
use Rattle.sheets.specs.declared.refusals.Refusal.TheVariants.{NoMemory}
use Rattle.sheets.specs.Faults.{Lowest}
use Rattle.depots.specs.Fields.{new_name}
use Rattle.depots.specs.Troubles.{Faultless, LineFault}
use Rattle.depots.proofs.Fieldwise.{one-faultless, one-full}
use Rattle.depots.proofs.Returned.{handed_on, only_fine, only_told}
use Rattle.depots.proofs.entries.list_name.Goals as goal
use Rattle.depots.proofs.entries.list_name.Goals.{After-new_name, In_ok-refuse_if_full}

-- what was found of the name, among those that were listed
found : (c : After-new_name) → result_err c.new_name.result ≡ new_name (vec_items c.args.names.now) c.args.text.now
found c = c.new_name.ensures ∙ ap (λ l. new_name l c.args.text.now) c.deref.ensures.value

-- a line that was not refused is at no fault
right : (c : In_ok-refuse_if_full) → (result_err c.new_name.result ≡ new_name (vec_items c.args.names.now) c.args.text.now) → Faultless (new_name (vec_items c.args.names.now) c.args.text.now ∷ []) (leb c.args.most (vec_len c.args.names.now))
right c told =
    one-faultless _ (only_fine c.new_name.result c.map_err.result _ _ told c.map_err.ensures.cases c.in_ok-map_err.was) _ (sym (ap (leb c.args.most) c.len.ensures) ∙ c.in_ok-refuse_if_full.ensures)

pub returns-in_err-map_err : goal.returns-in_err-map_err
returns-in_err-map_err c =
    let w = c.in_err-map_err.field-0.0 in
    let full = leb c.args.most (vec_len c.args.names.now) in
    rw (handed_on c.from_residual.result w c.from_residual.ensures.1)
    (inr (subst (λ t. Lowest (LineFault (t ∷ []) full) w) (found (goal.at.returns-in_err-map_err c).After-new_name) (only_told c.new_name.result c.map_err.result w c.map_err.ensures.cases c.in_err-map_err.was full)), refl)

pub returns-in_err-refuse_if_full : goal.returns-in_err-refuse_if_full
returns-in_err-refuse_if_full c =
    let told = found (goal.at.returns-in_err-refuse_if_full c).After-new_name in
    let full = leb c.args.most (vec_len c.args.names.now) in
    rw (handed_on c.from_residual-in_err-refuse_if_full.result c.in_err-refuse_if_full.field-0.0 c.from_residual-in_err-refuse_if_full.ensures.1)
    (inr (subst (Lowest (LineFault (new_name (vec_items c.args.names.now) c.args.text.now ∷ []) full)) (sym c.in_err-refuse_if_full.ensures.0) (one-full _ (only_fine c.new_name.result c.map_err.result _ _ told c.map_err.ensures.cases c.in_ok-map_err.was) full (sym (ap (leb c.args.most) c.len.ensures) ∙ c.in_err-refuse_if_full.ensures.1))), refl)

pub returns-in_err-new : goal.returns-in_err-new
returns-in_err-new c =
    let at = goal.at.returns-in_err-new c in
    rw (handed_on c.from_residual-in_err-new.result NoMemory c.from_residual-in_err-new.ensures.1) (inl (refl, right at.In_ok-refuse_if_full (found at.After-new_name)), refl)

pub returns-in_err-push : goal.returns-in_err-push
returns-in_err-push c =
    let at = goal.at.returns-in_err-push c in
    rw (handed_on c.from_residual-in_err-push.result NoMemory c.from_residual-in_err-push.ensures.1) (inl (refl, right at.In_ok-refuse_if_full (found at.After-new_name)), c.in_err-push.ensures.items)

pub returns : goal.returns
returns c =
    let at = goal.at.returns c in
    let before = vec_items c.args.names.now in
    (right at.In_ok-refuse_if_full (found at.After-new_name), c.in_ok-push.ensures.items ∙ ap (λ t. before ++ t ∷ []) c.in_ok-new.ensures)
