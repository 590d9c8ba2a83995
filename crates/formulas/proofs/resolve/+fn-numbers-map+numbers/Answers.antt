use Rattle.std.proofs.Common.{rules, tests, ◌≡◌, ◌++◌, Err, ⊎_elim, subst, sym, refl, ap, ◌∙◌}
use Rattle.std.proofs.lemmas.Iterator.{YieldsList-from_slice}
use Rattle.std.proofs.lemmas.Iterator.Adapters.{serves_from_places}
use Rattle.std.specs.Iterator.Adapters.{map_source, map_callee}
use Rattle.std.specs.Slice.Iter.{iter_rest}
use Rattle.facts.specs.Numbering.{number_under}
use Rattle.formulas.specs.Resolving.{Numbers}
use Rattle.formulas.specs.Shapes.{texted}
use Rattle.formulas.proofs.Trees.{less_deep}
use Rattle.formulas.proofs.Numbering.{AllNumbered, collected, all_fault, all_numbered}
use Rattle.formulas.proofs.Mapped.{gave_all, gave_at}
use Rattle.formulas.proofs.resolve.+fn-numbers-map+numbers.Goals as goal

pub try_collect-requires-clause-can : goal.try_collect-requires-clause-can
try_collect-requires-clause-can g t c = (
  tt,
  simp c.map.ensures.closure (serves_from_places (YieldsList-from_slice c.in-All.inner.items (cc)) (λ x q k. search rules)
      (λ x k h is. let less = less_deep c.in-All.inner k x.now h is in (search (rules, tests), (λ a m. m, λ a m. m)))),
)

pub returns-in_err-all-in-All : goal.returns-in_err-all-in-All
returns-in_err-all-in-All g t c =
    let e = c.in_err-all-in-All.field-0.0 in
    let gives : c.from_residual-in_err-all-in-All.result ≡ Err e = search rules in
    rw gives (⊎_elim (λ full. rw full.1 tt)
    (λ run.
    let got = gave_at _ (λ m. iter_rest (map_source m)) (λ m. map_callee m ≡ map_callee c.map.result) (λ t r. Numbers (number_under g.K.Kind c.args.listed.now) (texted t) r) run.0 run.2.0 (Err e) run.2.2 (ap map_callee run.1)
    (λ m n r t k. let at : (map_callee m).1.now ≡ c.args.listed.now = ap (λ q. q.1.now) (k ∙ c.map.ensures.closure) in (t.0.now, t.1, search (rules, tests), rw (← at) (search (rules, tests)))) in
    all_fault (number_under g.K.Kind c.args.listed.now) c.args.formula.now c.in-All.inner c.in-All.is e got.0 got.1 run.0.items run.2.0 (cc) got.3 got.4) c.in_err-all-in-All.ensures.err)

pub returns-in_ok-all-in-All : goal.returns-in_ok-all-in-All
returns-in_ok-all-in-All g t c =
    let ran = c.in_ok-all-in-All.ensures.ran in
    let each = gave_all _ (λ m. iter_rest (map_source m)) (λ m. map_callee m ≡ map_callee c.map.result) (λ t r. Numbers (number_under g.K.Kind c.args.listed.now) (texted t) r) c.in_ok-all-in-All.ensures.runs.0 ran.0 c.map.result ran.2.0 ran.2.1 refl
    (λ m n r t k. let at : (map_callee m).1.now ≡ c.args.listed.now = ap (λ q. q.1.now) (k ∙ c.map.ensures.closure) in (t.0.now, t.1, search (rules, tests), rw (← at) (search (rules, tests)))) (λ n s. s.0.0) in
    let left : iter_rest (map_source c.map.result) ≡ c.in-All.inner.items = cc in
    let got = collected (number_under g.K.Kind c.args.listed.now) _ c.in-All.inner.items ran.0 ran.1 c.in_ok-all-in-All.all (rw (← left) each) ran.4 (λ v r w s. (s.0, s.1, s.2.0)) in
    let items = got.1 ∙ ap (λ l. l ++ got.0) ran.3.0 in
    all_numbered (number_under g.K.Kind c.args.listed.now) c.args.formula.now c.in-All.inner c.shrink_to_fit.new.self c.in-All.is (subst (AllNumbered (number_under g.K.Kind c.args.listed.now) c.in-All.inner.items) (sym (c.shrink_to_fit.ensures.items ∙ items)) got.2)
