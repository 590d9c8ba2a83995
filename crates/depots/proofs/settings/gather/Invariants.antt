use Rattle.std.specs.Option.{option_map}
use Rattle.sheets.specs.Pieces.{pieces, following}
use Rattle.facts.specs.Numbering.{number_under}
use Rattle.depots.specs.Settings.{numbers_of}
use Rattle.depots.proofs.Gathered.{Gathering, left}
use Rattle.depots.proofs.settings.gather.Given as goal

abbrev pub invariant-loop-rest : goal.invariant-loop-rest
invariant-loop-rest g l =
    Gathering (number_under g.K.Kind l.listed) (pieces 44 l.text) (numbers_of l.list) (following 44 (option_map (λ x. x.now) l.rest))

abbrev pub decreases-loop-rest : goal.decreases-loop-rest
decreases-loop-rest g l = left (option_map (λ x. x.now) l.rest)
