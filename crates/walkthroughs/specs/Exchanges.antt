-- Calls with their answers beside them, as a caller lends them. Assumes nothing.
use Rattle.std.specs.Prelude.{◌≡◌, List, map, Some}
use Rattle.walkthroughs.specs.declared.exchange.Answer.{Answer as Kept}
use Rattle.walkthroughs.specs.declared.exchange.Answer.TheVariants.{Changed, Refused, Told}
use Rattle.walkthroughs.specs.declared.exchange.Call.{Call as Lent}
use Rattle.walkthroughs.specs.declared.exchange.Call.TheVariants.{Look, Step, Truth}
use Rattle.walkthroughs.specs.declared.exchange.Exchange.{Exchange}
use Rattle.walkthroughs.specs.Depots.{Depot}
use Rattle.walkthroughs.specs.Runs.{Answer, Call, Held, Ran, RunLaw, begun}
use Rattle.walkthroughs.specs.Runs.Answer.{accepted, refused, told}
use Rattle.walkthroughs.specs.Runs.Call.{look, step, truth}

-- A call as the rules of runs have it.
abbrev pub call_of : Lent → Call
call_of (Step moves) = step moves.now
call_of (Truth n) = truth n
call_of (Look f) = look f

-- An answer as the rules of runs have it.
abbrev pub answer_of : Kept → Answer
answer_of (Changed n) = accepted n
answer_of (Told b) = told b
answer_of (Refused w) = refused w

-- Calls that were sent to a new walkthrough: they are as they were, each has its answer beside it, these are a run from the
-- start, and the run keeps the law.
pub record Lawful (d : Depot) (before after : List Exchange) (left : Held) : Type 0 where
  pub calls : map (λ x. x.call) after ≡ map (λ x. x.call) before
  pub answers : List Kept
  pub beside : map (λ x. x.answer) after ≡ map Some answers
  pub ran : Ran d (begun d) (map (λ x. call_of x.call) before) (map answer_of answers) left
  pub law : RunLaw d (map (λ x. call_of x.call) before) (map answer_of answers) left
