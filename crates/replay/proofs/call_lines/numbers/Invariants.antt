use Rattle.std.proofs.Common.{◌≡◌, ◌++◌, drop, map}
use Rattle.std.specs.Option.{option_map}
use Rattle.replay.specs.CallLines.{numbers_of}
use Rattle.replay.proofs.call_lines.numbers.Given as goal

abbrev pub invariant-loop-word : goal.invariant-loop-word
invariant-loop-word l = numbers_of (map (λ w. w.now) l.words) ≡ option_map (λ ns. l.numbers.items ++ ns) (numbers_of (map (λ w. w.now) (drop l.word-index l.words)))
