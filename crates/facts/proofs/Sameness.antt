-- The derived `==` of watchers is that of their definition. Assumes nothing.
use Rattle.std.proofs.Common.{◌≡◌, refl}
use Rattle.facts.specs.declared.sighted.Watcher.{Watcher}
use Rattle.facts.specs.declared.sighted.Watcher.TheVariants.{All, Zone}
use Rattle.facts.specs.Watchers.{same_watcher}
use Rattle.facts.specs.contracts.sighted.WatcherPartialEq.TheImpl as derived

at : (v w : Watcher) → derived.eq-value.it v w ≡ same_watcher v w
at All All = refl
at All (Zone b) = refl
at (Zone a) All = refl
at (Zone a) (Zone b) = refl

pub same_by_definition : derived.eq-value.it ≡ same_watcher
same_by_definition = λ i v w. at v w i
