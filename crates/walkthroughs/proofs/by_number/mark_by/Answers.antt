use Rattle.std.proofs.Common.{◌≤◌, ◌∙◌, length, rules, arith}
use Rattle.std.proofs.lemmas.Grind.{common_steps}
use Rattle.depots.specs.Tables.{tables_of}
use Rattle.walkthroughs.proofs.Spread.{entry_listed, marked_by, unlisted_by}
use Rattle.walkthroughs.proofs.by_number.mark_by.Goals as goal
use Rattle.walkthroughs.proofs.by_number.mark_by.Goals.{in-Some, in_default}

pub loop-number-preserved : goal.loop-number-preserved
loop-number-preserved g c =
    let facts = (tables_of c.args.depot.now).facts in
    let few : length facts ≤ 128 = search rules in
    elim c.match-fact_at.branch [
      | in-Some w ↦ rw w.row-is (
        omega arith,
        λ by marks f.
            let before = c.loop-number.invariant.1 by marks f in
            let step = marked_by by facts c.loop-number.row _ f w.in-Some.fact.now _ (omega (arith, c.loop-number.invariant.0)) (w.in-Some.ensures ∙ entry_listed facts _) (marks _ _ _ w.mark.ensures) in
            grind (arith, common_steps),
      )
      | in_default w ↦ rw w.row-is (
        c.loop-number.invariant.0,
        λ by marks f.
            let before = c.loop-number.invariant.1 by marks f in
            let step = unlisted_by by facts c.loop-number.row _ f (w.in_default.ensures ∙ entry_listed facts _) in
            grind (arith, common_steps),
      )
    ]

pub returns : goal.returns
returns g c = λ by marks f. let before = c.loop-number.invariant.1 by marks f in grind (arith, common_steps)
