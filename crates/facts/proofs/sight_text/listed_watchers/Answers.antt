use Rattle.std.proofs.Common.{◌≡◌, Err, ◌∷◌, ◌+◌, drop, map, ℕ, List, eqb, length, rules, arith, sym, ap, ◌∙◌, length-append, ok_or}
use Rattle.std.specs.Option.{option_map}
use Rattle.std.proofs.lemmas.Iterator.Consumers.{YieldsList-at, YieldsList-end}
use Rattle.std.proofs.lemmas.Iterator.Splits.{YieldsList-from_slice_split}
use Rattle.std.proofs.lemmas.List.{map-append}
use denote.Ref.{Bor}
use borrow.Author.Tests.{tests}
use Rattle.facts.specs.declared.names.NoFact.TheVariants.{NotListed}
use Rattle.facts.specs.declared.sighted.Watcher.TheVariants.{All}
use Rattle.facts.specs.Parts.{parts_of, watchers_named}
use Rattle.facts.specs.ShortLists.{short_list}
use Rattle.facts.proofs.Gathered.{gathered_more, gathering_fails, gathered_all, parts_on, taken}
use Rattle.facts.proofs.sight_text.listed_watchers.Goals as goal

pub returns-in_err-listed_watcher : goal.returns-in_err-listed_watcher
returns-in_err-listed_watcher c =
    let on = parts_on (YieldsList-at c.into_iter-part-iterator.ensures.into_iter_gives (YieldsList-from_slice_split _ (λ b. eqb b 46) c.in-Some.text.now c.split-part-items.ensures.rest c.split-part-items.ensures.done c.split-part-items.ensures.closure (λ x b q k. search (rules, tests)))) c.loop-part.yielded c.loop-part.part-iterator c.next.new.self c.loop-part.yielded_by c.next.result c.in-Some-part.part c.in-Some-part.is c.next.ensures.steps in
    let zones = c.args.zones.now in
    let told : c.from_residual.result ≡ Err c.in_err-listed_watcher.field-0.0 = search rules in
    let fails = gathering_fails zones _ c.loop-part.watchers c.loop-part.invariant _ c.in-Some-part.part.now _ (sym c.in_err-listed_watcher.was ∙ c.listed_watcher.ensures) in
    told ∙ rw c.in-Some.is (fails ∙ sym (ap (λ l. ok_or (option_map (short_list {N = 5} All) (watchers_named zones l)) NotListed) on))

pub loop-part-preserved : goal.loop-part-preserved
loop-part-preserved c =
    let pushed = rw c.unwrap.ensures at c.push.ensures.room in
    let more = gathered_more c.args.zones.now _ c.loop-part.watchers c.loop-part.invariant c.in-Some-part.part.now c.in_ok-listed_watcher.field-0 c.push.new.self (sym c.in_ok-listed_watcher.was ∙ c.listed_watcher.ensures) pushed.0 pushed.1 c.push.ensures.places in
    rw map-append more

pub unwrap-requires : goal.unwrap-requires
unwrap-requires c =
    let on = parts_on (YieldsList-at c.into_iter-part-iterator.ensures.into_iter_gives (YieldsList-from_slice_split _ (λ b. eqb b 46) c.in-Some.text.now c.split-part-items.ensures.rest c.split-part-items.ensures.done c.split-part-items.ensures.closure (λ x b q k. search (rules, tests)))) c.loop-part.yielded c.loop-part.part-iterator c.next.new.self c.loop-part.yielded_by c.next.result c.in-Some-part.part c.in-Some-part.is c.next.ensures.steps in
    let few = rw c.in-Some.is at c.requires in
    taken _ _ c.push.result c.push.ensures.room (λ back full. omega (arith, ap length on, length-append (map (λ (p : Bor (List ℕ)). p.now) c.loop-part.yielded) (c.in-Some-part.part.now ∷ drop (length c.loop-part.yielded + 1) (parts_of c.in-Some.text.now)), full.0, few, c.loop-part.invariant.many))

pub returns : goal.returns
returns c =
    let end = YieldsList-end (YieldsList-at c.into_iter-part-iterator.ensures.into_iter_gives (YieldsList-from_slice_split _ (λ b. eqb b 46) c.in-Some.text.now c.split-part-items.ensures.rest c.split-part-items.ensures.done c.split-part-items.ensures.closure (λ x b q k. search (rules, tests)))) c.loop-part.yielded c.loop-part.part-iterator c.loop-part.yielded_by c.next.result c.next.new.self c.in-None.is c.next.ensures.steps in
    gathered_all _ _ c.loop-part.watchers c.loop-part.invariant ∙ rw c.in-Some.is (ap (λ l. ok_or (option_map (short_list {N = 5} All) (watchers_named c.args.zones.now l)) NotListed) end.0)
