use Rattle.std.proofs.Common.{◌≡◌, ◌*◌, ◌%◌, ◌^◌, true, false, length, None, Some, subst, rules}
use Rattle.std.proofs.lemmas.Iterator.{first_from_Range}
use borrow.Author.Tests.{tests}
use Rattle.walkthroughs.specs.Moments.{depot_of, state_of}
use Rattle.walkthroughs.specs.SetRows.{has}
use Rattle.walkthroughs.proofs.DisturbingSets.{FirstHad, first_had, none_had}
use Rattle.walkthroughs.proofs.SetSearch.{most_sets, set_first, sets_fit}
use Rattle.walkthroughs.proofs.moment.Moment.disturbance.Goals as goal

pub returns-in_err-set : goal.returns-in_err-set
returns-in_err-set g c =
    let d = depot_of c.args.self.now in
    let s = state_of c.args.self.now in
    let moves = c.args.moves.now in
    let row = c.disturbing-sets.result in
    let k = 1 * 2 ^ length moves % 2 ^ 64 in
    let few = most_sets (length moves) c.requires.few in
    let first : FirstHad d s moves row k few c.disturbing-sets.ensures c.find.result = first_from_Range _ _ _ c.find.result (λ i. has row i ≡ true) (λ i. has row i ≡ false) c.find.ensures.ran (λ x q a. search (rules, tests)) (λ x q a. search (rules, tests)) in
    let none : FirstHad d s moves row k few c.disturbing-sets.ensures None = subst (FirstHad d s moves row k few c.disturbing-sets.ensures) c.in_err-set.was first in
    rw c.from_residual.ensures (set_first d s moves k (sets_fit (length moves) c.requires.few) None (none_had d s moves row k few c.disturbing-sets.ensures none))

pub returns : goal.returns
returns g c =
    let d = depot_of c.args.self.now in
    let s = state_of c.args.self.now in
    let moves = c.args.moves.now in
    let row = c.disturbing-sets.result in
    let k = 1 * 2 ^ length moves % 2 ^ 64 in
    let few = most_sets (length moves) c.requires.few in
    let set = c.in_ok-set.set in
    let first : FirstHad d s moves row k few c.disturbing-sets.ensures c.find.result = first_from_Range _ _ _ c.find.result (λ i. has row i ≡ true) (λ i. has row i ≡ false) c.find.ensures.ran (λ x q a. search (rules, tests)) (λ x q a. search (rules, tests)) in
    let found : FirstHad d s moves row k few c.disturbing-sets.ensures (Some set) = subst (FirstHad d s moves row k few c.disturbing-sets.ensures) c.in_ok-set.was first in
    set_first d s moves k (sets_fit (length moves) c.requires.few) c.disturbed_by.result (first_had d s moves row k few c.disturbing-sets.ensures set c.disturbed_by.result found c.disturbed_by.ensures)
