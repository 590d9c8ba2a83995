use Rattle.std.proofs.Common.{◌≡◌, ℕ, ◌+◌, Bool, ◌||◌, List, [], ◌∷◌, drop, refl, ap, ◌∙◌, arith, rules}
use Rattle.std.proofs.lemmas.Iterator.{YieldsList-from_slice}
use Rattle.std.proofs.lemmas.Iterator.Consumers.{YieldsList-from_enumerate}
use Rattle.std.proofs.lemmas.Iterator.Search.{any_from_yields_List}
use Rattle.std.specs.List.{enumerate_from, list_any}
use Rattle.std.specs.Slice.Iter.{iter_rest}
use borrow.Author.Tests.{tests}
use Rattle.std.proofs.lemmas.Grind.{common_steps}
use Rattle.sheets.proofs.Places.{drop-next}
use Rattle.depots.specs.Fields.{among}
use Rattle.depots.specs.Settings.{repeats}
use Rattle.depots.proofs.settings.has_repeat.Goals as goal

-- whether a number stands behind its place too
abbrev again : List ℕ → ℕ × ℕ → Bool
again numbers p = among p.1 (drop (p.0 + 1) numbers)

any_again : (numbers : List ℕ) (i : ℕ) (rest : List ℕ) → drop i numbers ≡ rest → list_any (again numbers) (enumerate_from i rest) ≡ repeats rest
any_again numbers i [] here = refl
any_again numbers i (n ∷ ns) here =
    let next = drop-next numbers i n ns here in
    ap (λ l. among n l || list_any (again numbers) (enumerate_from (i + 1) ns)) next ∙ ap (λ b. among n ns || b) (any_again numbers (i + 1) ns next)

pub returns : goal.returns
returns c =
    any_from_yields_List (again c.args.numbers.now) _ _ c.any.result c.any.ensures.ran (YieldsList-from_enumerate (YieldsList-from_slice c.args.numbers.now (ap (λ s. iter_rest s) c.enumerate.ensures.source ∙ c.iter.ensures.rest)) c.enumerate.ensures.count) (λ x b q k. (search rules, grind (tests, arith, common_steps)))
    ∙ any_again c.args.numbers.now 0 c.args.numbers.now refl
