use Rattle.std.proofs.Common.{rules}
use Rattle.batch.proofs.Numbers.{parsed}
use Rattle.batch.proofs.pairs.number.Goals as goal

pub returns : goal.returns
returns c = rw c.ok.ensures.value (parsed c.args.word.now c.parse.result c.parse.ensures.value.0 (λ plus. search (rules, plus)))
