use Rattle.std.proofs.Common.{map}
use Rattle.facts.proofs.Gathered.{Gathered}
use Rattle.facts.proofs.sight_text.listed_watchers.Given as goal

abbrev pub invariant-loop-part : goal.invariant-loop-part
invariant-loop-part l = Gathered l.zones (map (λ p. p.now) l.yielded) l.watchers
