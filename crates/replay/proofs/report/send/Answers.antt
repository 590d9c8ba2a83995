use Rattle.std.proofs.lemmas.Bool.{both_ways}
use Rattle.depots.specs.declared.any_depot.AnyDepot.TheVariants.{Plain, Sight}
use Rattle.depots.specs.Kinds.{plain_meaning, sight_meaning}
use Rattle.walkthroughs.specs.Walkthroughs.{held}
use Rattle.replay.proofs.WholeDepots.{read_goal}
use Rattle.replay.proofs.report.send.Goals as goal

pub returns-in_err-run-in-Plain : goal.returns-in_err-run-in-Plain
returns-in_err-run-in-Plain c = absurd (both_ways _ (read_goal plain_meaning _ _ (rw c.in-Plain.is at c.in_ok-depot.ensures).1) c.in_err-run-in-Plain.ensures.0)

pub returns-in_err-run-in-Sight : goal.returns-in_err-run-in-Sight
returns-in_err-run-in-Sight c = absurd (both_ways _ (read_goal sight_meaning _ _ (rw c.in-Sight.is at c.in_ok-depot.ensures).1) c.in_err-run-in-Sight.ensures.0)

pub returns-in_ok-run-in-Plain : goal.returns-in_ok-run-in-Plain
returns-in_ok-run-in-Plain c =
    let lawful = c.in_ok-run-in-Plain.ensures.1 in
    (Plain c.in-Plain.depot, rw c.in-Plain.is at c.in_ok-depot.ensures, lawful.answers, record { left = held c.in_ok-run-in-Plain.field-0; ran = lawful.ran; law = lawful.law }, lawful.beside)

pub returns-in_ok-run-in-Sight : goal.returns-in_ok-run-in-Sight
returns-in_ok-run-in-Sight c =
    let lawful = c.in_ok-run-in-Sight.ensures.1 in
    (Sight c.in-Sight.depot, rw c.in-Sight.is at c.in_ok-depot.ensures, lawful.answers, record { left = held c.in_ok-run-in-Sight.field-0; ran = lawful.ran; law = lawful.law }, lawful.beside)
