use Rattle.std.proofs.lemmas.Bool.Decides.{Decides-at}
use Rattle.facts.specs.Sight.{watchers_of}
use Rattle.facts.proofs.Idleness.{idle-decides}
use Rattle.facts.proofs.meaning.sight_is_always_true.Goals as goal

pub returns : goal.returns
returns c = Decides-at _ _ c.always_true.ensures (idle-decides (watchers_of c.args.fact.now))
