use Rattle.std.proofs.Common.{[], ◌∷◌, refl, arith}
use Rattle.std.proofs.lemmas.Grind.{common_steps}
use Rattle.walkthroughs.proofs.SetRows.{agree_below, has-placed, has-unplaced}
use Rattle.walkthroughs.proofs.set_rows.sets_with.Goals as goal

pub returns-in-1 : goal.returns-in-1
unfolding agree_below
returns-in-1 c = rw c.in-1.is (has-placed (12297829382473034410 ∷ 12297829382473034410 ∷ 12297829382473034410 ∷ 12297829382473034410 ∷ []) 1 refl)

pub returns-in-2 : goal.returns-in-2
unfolding agree_below
returns-in-2 c = rw c.in-2.is (has-placed (14757395258967641292 ∷ 14757395258967641292 ∷ 14757395258967641292 ∷ 14757395258967641292 ∷ []) 2 refl)

pub returns-in-3 : goal.returns-in-3
unfolding agree_below
returns-in-3 c = rw c.in-3.is (has-placed (17361641481138401520 ∷ 17361641481138401520 ∷ 17361641481138401520 ∷ 17361641481138401520 ∷ []) 3 refl)

pub returns-in-4 : goal.returns-in-4
unfolding agree_below
returns-in-4 c = rw c.in-4.is (has-placed (18374966859414961920 ∷ 18374966859414961920 ∷ 18374966859414961920 ∷ 18374966859414961920 ∷ []) 4 refl)

pub returns-in-5 : goal.returns-in-5
unfolding agree_below
returns-in-5 c = rw c.in-5.is (has-placed (18446462603027742720 ∷ 18446462603027742720 ∷ 18446462603027742720 ∷ 18446462603027742720 ∷ []) 5 refl)

pub returns-in-6 : goal.returns-in-6
unfolding agree_below
returns-in-6 c = rw c.in-6.is (has-placed (18446744069414584320 ∷ 18446744069414584320 ∷ 18446744069414584320 ∷ 18446744069414584320 ∷ []) 6 refl)

pub returns-in-7 : goal.returns-in-7
unfolding agree_below
returns-in-7 c = rw c.in-7.is (has-placed (0 ∷ 18446744073709551615 ∷ 0 ∷ 18446744073709551615 ∷ []) 7 refl)

pub returns-in-8 : goal.returns-in-8
unfolding agree_below
returns-in-8 c = rw c.in-8.is (has-placed (0 ∷ 0 ∷ 18446744073709551615 ∷ 18446744073709551615 ∷ []) 8 refl)

pub returns-in_default : goal.returns-in_default
returns-in_default c = has-unplaced c.args.place (λ some few. grind (arith, common_steps))
