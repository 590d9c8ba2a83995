use Rattle.std.proofs.lemmas.Bool.Decides.{Decides-at}
use Rattle.facts.specs.Carrying.{sight_carries-decides}
use Rattle.facts.proofs.meaning.sight_carries.Goals as goal

pub returns : goal.returns
returns c = Decides-at _ _ c.carries.ensures (sight_carries-decides c.args.a.now c.args.b.now)
