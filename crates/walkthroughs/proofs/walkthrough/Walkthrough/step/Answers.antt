use Rattle.std.proofs.Common.{◌≡◌, List, Bool, Result, MatchResult, length, ap, subst}
use Rattle.sheets.specs.declared.refusals.Refusal.{Refusal}
use Rattle.sheets.specs.Refusals.{unplaced}
use Rattle.sheets.proofs.Handed.{value_kept}
use Rattle.depots.specs.Tables.{tables_of}
use Rattle.formulas.specs.Truth.{stands_in}
use Rattle.walkthroughs.specs.Firing.{after}
use Rattle.walkthroughs.specs.Ruled.{ruled}
use Rattle.walkthroughs.specs.Steps.{Accepted, StepRefused}
use Rattle.walkthroughs.proofs.Calling.{stepped}
use Rattle.walkthroughs.proofs.walkthrough.Walkthrough.step.Goals as goal

pub returns : goal.returns
returns g c =
    let t = tables_of c.args.depot.now in
    let d = ruled g.K.Kind.carrying t in
    let s = stands_in c.row-row.result in
    let moves = c.args.moves.now in
    let judged = subst (λ (r : Result (List Bool) Refusal). MatchResult r (λ row. Accepted d s moves × (stands_in row ≡ after d s moves)) (λ w. StepRefused d s moves w)) (value_kept (λ w f. f ≡ unplaced w) c.judge.result c.map_err.result c.in_ok-after.after c.map_err.ensures.cases c.in_ok-after.was) c.judge.ensures in
    stepped g.K.Kind.carrying g.met.K.Kind.reflexive g.met.K.Kind.transitive t s (stands_in c.in_ok-after.after) _ _ _ _ moves c.row-row.ensures judged (ap length c.facts.ensures) (c.turn_to.ensures.after, c.turn_to.ensures.changes)
