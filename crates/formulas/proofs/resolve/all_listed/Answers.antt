use Rattle.std.proofs.Common.{rules, tests}
use Rattle.facts.specs.Numbering.{number_under}
use Rattle.formulas.specs.Resolving.{is_listed}
use Rattle.formulas.proofs.resolve.all_listed.Goals as goal

pub returns : goal.returns
returns g c = c.each_passes.ensures (λ text. is_listed (number_under g.K.Kind c.args.listed.now text)) (λ text passed says. search (rules, tests))
