-- The fact that is read, by the halves of its text. Assumes nothing.
use Rattle.std.proofs.Common.{◌≡◌, ℕ, ◌≤◌, true, List, [], ◌∷◌, ◌++◌, length, Option, Some, None, Ok, Err, Result, ok_or, sym, refl, ap, ◌∙◌, arith, length-append}
use Rattle.std.specs.Option.{option_map}
use Rattle.std.proofs.lemmas.Bool.{cond-true, and_parts, leb-true}
use Rattle.sheets.specs.Listed.{place_of}
use Rattle.facts.specs.declared.names.NoFact.{NoFact}
use Rattle.facts.specs.declared.names.NoFact.TheVariants.{NotListed}
use Rattle.facts.specs.declared.short_list.ShortList.{ShortList}
use Rattle.facts.specs.declared.sighted.SightFact.{SightFact}
use Rattle.facts.specs.declared.sighted.Watcher.{Watcher}
use Rattle.facts.specs.declared.sighted.Watcher.TheVariants.{All}
use Rattle.facts.specs.Parts.{parts_of, fitting, formed, watchers_named, watchers_in, last_of}
use Rattle.facts.specs.ShortLists.{short_list}
use Rattle.facts.specs.Sight.{sight_fact, sight_reading}
use Rattle.facts.proofs.Partwise.{last_last, watchers_last}

module _ (zones matters : List (List ℕ)) (text : List ℕ) (front : List (List ℕ)) (last : List ℕ) (form : formed (parts_of text) ≡ true) (cut : parts_of text ≡ front ++ last ∷ []) where
  -- at most five watchers
  pub few : length front ≤ 5
  few =
      let six = leb-true (length (parts_of text)) 6 (and_parts _ (fitting (parts_of text)) form).0 in
      omega (arith, ap length cut, length-append front (last ∷ []), six)

  reads : sight_fact (watchers_named zones front) (place_of last matters) ≡ sight_reading zones matters text
  reads = sym (cond-true _ _ _ form ∙ ap (λ ps. sight_fact (watchers_in zones ps) (place_of (last_of ps) matters)) cut ∙ ap (λ o. sight_fact o (place_of (last_of (front ++ last ∷ [])) matters)) (watchers_last last zones front) ∙ ap (λ t. sight_fact (watchers_named zones front) (place_of t matters)) (last_last last front))

  pub unlisted_watchers : (why : NoFact) → Err why ≡ ok_or (option_map (short_list {N = 5} All) (watchers_named zones front)) NotListed → Err why ≡ sight_reading zones matters text
  unlisted_watchers why none = by_watchers (watchers_named zones front) none ∙ reads
    where
      by_watchers : (o : Option (List Watcher)) → Err why ≡ ok_or (option_map (short_list {N = 5} All) o) NotListed → Err why ≡ sight_fact o (place_of last matters)
      by_watchers None none = let is : why ≡ NotListed = cc in ap Err is
      by_watchers (Some ws) none = cc

  module _ (s : ShortList Watcher 5) (listed : Ok s ≡ ok_or (option_map (short_list All) (watchers_named zones front)) NotListed) where
    pub unlisted_matter : None ≡ place_of last matters → Err NotListed ≡ sight_reading zones matters text
    unlisted_matter none = by_watchers (watchers_named zones front) listed ∙ ap (sight_fact (watchers_named zones front)) none ∙ reads
      where
        by_watchers : (o : Option (List Watcher)) → Ok s ≡ ok_or (option_map (short_list All) o) NotListed → Err NotListed ≡ sight_fact o None
        by_watchers None listed = refl
        by_watchers (Some ws) listed = refl

    pub both_listed : (m : ℕ) → Some m ≡ place_of last matters → ◌≡◌ {A = Result SightFact NoFact} (Ok (record { watchers = s; matter = m })) (sight_reading zones matters text)
    both_listed m here = by_watchers (watchers_named zones front) listed ∙ ap (sight_fact (watchers_named zones front)) here ∙ reads
      where
        by_watchers : (o : Option (List Watcher)) → Ok s ≡ ok_or (option_map (short_list All) o) NotListed → ◌≡◌ {A = Result SightFact NoFact} (Ok (record { watchers = s; matter = m })) (sight_fact o (Some m))
        by_watchers None listed = cc
        by_watchers (Some ws) listed = let is : s ≡ short_list All ws = cc in ap (λ (t : ShortList Watcher 5). Ok (record { watchers = t; matter = m })) is
