use Rattle.std.proofs.Common.{◌≡◌, ℕ, ◌≤◌, Some, None, length, cond, ltb, ap, ◌∙◌, arith, rules, tests}
use Rattle.std.specs.Option.{unwrap_or}
use Rattle.std.proofs.lemmas.Bool.Decides.{nat_tests}
use Rattle.std.proofs.lemmas.Iterator.{YieldsList-from_slice}
use Rattle.std.proofs.lemmas.Iterator.Search.{position_from_yields_List}
use Rattle.std.proofs.lemmas.List.Sums.{prefix_len-le-length}
use Rattle.formulas.specs.Spelling.{is_mark}
use Rattle.formulas.proofs.marks.before_mark.Goals as goal

or_end : (n l : ℕ) → n ≤ l → unwrap_or (cond (ltb n l) (Some n) None) l ≡ n
or_end n l h = grind (arith, nat_tests)

pub returns-clause-value : goal.returns-clause-value
returns-clause-value c =
    let found = position_from_yields_List is_mark _ _ c.position.result c.position.ensures.ran (YieldsList-from_slice c.args.text.now cc) (λ x b q k. search (rules, tests)) in
    let value = ap (λ r. unwrap_or r (length c.args.text.now)) found ∙ or_end _ _ (prefix_len-le-length _ c.args.text.now) in
    search rules
