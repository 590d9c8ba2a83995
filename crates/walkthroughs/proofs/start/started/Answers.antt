use Rattle.std.proofs.Common.{ℕ, ap, rules, arith}
use mathlib.Core.Path.{fun_ext}
use Rattle.std.proofs.lemmas.Grind.{common_steps}
use Rattle.walkthroughs.proofs.start.started.Goals as goal

pub returns : goal.returns
returns g c =
    let start : (f : ℕ) → _ = c.mark_by.ensures g.K.Kind.carrying (λ fact marks after k. search rules) in
    fun_ext (λ f. let s = start f in let z = ap (λ s. s f) c.unmarked-row.ensures in grind (arith, common_steps))
