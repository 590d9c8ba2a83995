use Rattle.std.proofs.Common.{false, refl, ◌∙◌, arith}
use Rattle.std.proofs.lemmas.List.{get_or-take}
use Rattle.formulas.specs.Truth.{stands_in}
use Rattle.walkthroughs.specs.Marks.{standing}
use Rattle.walkthroughs.proofs.Marking.{changed-none, changed-other, changed-same, moved_none, moved_on, moved_turn, stands_at, told-other, told_same}
use Rattle.walkthroughs.proofs.marks.Marks.turn_to.Goals as goal
use Rattle.walkthroughs.proofs.marks.Marks.turn_to.Goals.{then-stands-wanted, else-stands-wanted}

pub loop-i-init : goal.loop-i-init
loop-i-init c =
    let s = standing c.args.self.now in
    let t = stands_in c.args.wanted.now in
    (moved_none s t s refl, omega arith, changed-none s t)

pub loop-i-preserved : goal.loop-i-preserved
loop-i-preserved c =
    let s = standing c.args.self.now in
    let t = stands_in c.args.wanted.now in
    let i = c.loop-i.i in
    let u = standing c.loop-i.self in
    let inv = c.loop-i.invariant in
    let wanted = get_or-take c.args.count c.args.wanted.now i false (omega arith) ∙ stands_at c.args.wanted.now i in
    elim c.if-stands-wanted.branch [
      | then-stands-wanted w ↦
          let other = told-other s t i u c.stands.result _ inv.0 c.stands.ensures wanted w.if-stands-wanted.true in
          rw (w.self-is, w.changes-is) (moved_turn s t i u _ (omega arith) inv.0 w.turn.ensures other, omega (arith, inv.1), changed-other s t i _ inv.2 other)
      | else-stands-wanted w ↦
          let same = told_same s t i u c.stands.result _ inv.0 c.stands.ensures wanted w.if-stands-wanted.false in
          rw (w.self-is, w.changes-is) (moved_on s t i u inv.0 same, omega (arith, inv.1), changed-same s t i _ inv.2 same)
    ]
