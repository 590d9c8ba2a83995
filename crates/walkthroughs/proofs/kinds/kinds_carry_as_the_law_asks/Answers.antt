use Rattle.walkthroughs.proofs.Among.{carrying_among}
use Rattle.walkthroughs.proofs.kinds.kinds_carry_as_the_law_asks.Goals as goal

pub returns : goal.returns
returns g c = λ facts d count by. carrying_among g.K.Kind.carrying facts g.met.K.Kind.reflexive g.met.K.Kind.transitive d count by
