use Rattle.std.proofs.Common.{◌≡◌, ◌+◌, cond, not, ◌||◌, length, sym, ap, ◌∙◌, arith}
use Rattle.std.proofs.lemmas.List.{length-map}
use Rattle.depots.specs.Tables.{effect_of, tables_of}
use Rattle.walkthroughs.specs.Depots.{move_of, reads}
use Rattle.walkthroughs.specs.DisturbingSets.{some_other}
use Rattle.walkthroughs.specs.Moments.{depot_of, state_of}
use Rattle.walkthroughs.specs.Outcomes.{left_of}
use Rattle.walkthroughs.specs.SetRows.{has}
use Rattle.walkthroughs.proofs.DisturbingSets.{some_more, some_none}
use Rattle.walkthroughs.proofs.Ruling.{lent_are}
use Rattle.walkthroughs.proofs.moment.Moment.other_after.Goals as goal

pub loop-part-init : goal.loop-part-init
loop-part-init g c = λ set below. c.no_set-sets.ensures set below ∙ sym (some_none _)

pub loop-part-preserved : goal.loop-part-preserved
loop-part-preserved g c = λ set below.
    let d = depot_of c.args.self.now in
    let s = state_of c.args.self.now in
    let t = left_of c.args.self.now.row.now c.args.outcomes.now set in
    let m = c.args.number in
    let e = c.loop-part.part in
    let after = has c.part_after-after.result set in
    c.either-sets.ensures set below
    ∙ ap (λ b. b || has c.unlike.result set) (c.loop-part.invariant set below)
    ∙ ap (λ b. some_other d s t m e || b) (c.unlike.ensures set below ∙ ap (λ b. cond b (not after) after) c.part_reads.ensures ∙ ap (λ b. cond (reads d s m e) (not b) b) (c.part_after-after.ensures set below))
    ∙ sym (some_more (λ part. cond (reads d s m part) (not (reads d t m part)) (reads d t m part)) e)

pub returns : goal.returns
returns g c = λ set below.
    let d = depot_of c.args.self.now in
    let lent = c.effects_of.result.now in
    let many : length lent ≡ length (move_of d c.args.number).effects = sym (length-map lent effect_of) ∙ ap length (lent_are g.K.Kind.carrying (tables_of c.args.self.now.depot.now) c.args.number lent c.effects_of.ensures) in
    let all : c.loop-part.part ≡ length lent + 1 = omega (arith, c.loop-part-test.false, c.loop-part.auto.part-end) in
    c.loop-part.invariant set below ∙ ap (some_other d (state_of c.args.self.now) (left_of c.args.self.now.row.now c.args.outcomes.now set) c.args.number) (all ∙ ap (λ n. n + 1) many)
