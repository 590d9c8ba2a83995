use Rattle.std.proofs.Common.{◌∙◌, rules}
use Rattle.replay.proofs.Numbers.{parsed}
use Rattle.replay.proofs.call_lines.number.Goals as goal

pub returns : goal.returns
returns c = c.ok.ensures.value ∙ parsed c.args.word.now c.parse.result c.parse.ensures.value.0 (λ plus. search (rules, plus))
