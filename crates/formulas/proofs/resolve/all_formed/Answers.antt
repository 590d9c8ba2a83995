use Rattle.std.proofs.Common.{rules, tests}
use Rattle.facts.specs.Numbering.{has_form, number_under}
use Rattle.formulas.proofs.resolve.all_formed.Goals as goal

pub returns : goal.returns
returns g c = c.each_passes.ensures (λ text. has_form (number_under g.K.Kind c.args.listed.now text)) (λ text passed says. search (rules, tests))
