-- The watchers that the parts of a text name, gathered in a short list. Assumes nothing.
use Rattle.std.proofs.Common.{◌≡◌, ℕ, ◌+◌, ◌<◌, ◌≤◌, min, List, [], ◌∷◌, ◌++◌, map, length, drop, set, replicate, Option, Some, None, Ok, Err, Result, ok_or, sym, refl, ap, subst, ◌∙◌, append_assoc, arith, length-append, length-drop, length-take}
use Rattle.std.specs.Option.{option_map}
use Rattle.std.proofs.lemmas.List.{take-append-drop, drop_more, set_at, length_push}
use Rattle.std.proofs.lemmas.Iterator.{YieldsList}
use Rattle.std.proofs.lemmas.Iterator.Consumers.{YieldsList-so_far, YieldsList-turn}
use Rattle.std.specs.Iterator.{Yields}
use Rattle.std.specs.Result.{MatchResult, IsOk}
use denote.Ref.{Bor}
use native.Mathlib.Bridge.{le_prop}
use Rattle.facts.specs.declared.names.NoFact.{NoFact}
use Rattle.facts.specs.declared.names.NoFact.TheVariants.{NotListed}
use Rattle.facts.specs.declared.short_list.ShortList.{ShortList}
use Rattle.facts.specs.declared.sighted.Watcher.{Watcher}
use Rattle.facts.specs.declared.sighted.Watcher.TheVariants.{All}
use Rattle.facts.specs.Parts.{watcher_of, followed, watchers_named}
use Rattle.facts.specs.ShortLists.{entries_of, put_into, short_list}

-- what more parts name comes behind what some parts name
named-append : (zones seen rest : List (List ℕ)) (ws : List Watcher) → watchers_named zones seen ≡ Some ws → watchers_named zones (seen ++ rest) ≡ option_map (λ l. ws ++ l) (watchers_named zones rest)
named-append zones [] rest ws named = by_rest (watchers_named zones rest)
  where
    none : [] ≡ ws
    none = cc

    by_rest : (o : Option (List Watcher)) → o ≡ option_map (λ l. ws ++ l) o
    by_rest None = refl
    by_rest (Some l) = ap (λ ws. Some (ws ++ l)) none
named-append zones (p ∷ seen) rest ws named = by_parts (watcher_of zones p) (watchers_named zones seen) (λ us is. named-append zones seen rest us is) refl named
  where
    by_rest : (w : Watcher) (us : List Watcher) (o : Option (List Watcher)) → option_map (λ l. w ∷ l) (option_map (λ l. us ++ l) o) ≡ option_map (λ l. (w ∷ us) ++ l) o
    by_rest w us None = refl
    by_rest w us (Some l) = refl

    by_parts : (one : Option Watcher) (others : Option (List Watcher)) → ((us : List Watcher) → watchers_named zones seen ≡ Some us → watchers_named zones (seen ++ rest) ≡ option_map (λ l. us ++ l) (watchers_named zones rest)) → watchers_named zones seen ≡ others → followed one others ≡ Some ws → followed one (watchers_named zones (seen ++ rest)) ≡ option_map (λ l. ws ++ l) (watchers_named zones rest)
    by_parts None others later is e = cc
    by_parts (Some w) None later is e = cc
    by_parts (Some w) (Some us) later is e =
        let whole : w ∷ us ≡ ws = cc in
        ap (option_map (λ l. w ∷ l)) (later us is) ∙ by_rest w us (watchers_named zones rest) ∙ ap (λ ws. option_map (λ l. ws ++ l) (watchers_named zones rest)) whole

-- what is listed, or not, by the result that says so
module _ {X : Type 0} (o : Option X) where
  there : (x : X) → Ok x ≡ ok_or o NotListed → o ≡ Some x
  there x is = grind arith

  not_there : (why : NoFact) → Err why ≡ ok_or o NotListed → (o ≡ None) × (why ≡ NotListed)
  not_there why is = by_option o is
    where
      by_option : (p : Option X) → Err why ≡ ok_or p NotListed → (p ≡ None) × (why ≡ NotListed)
      by_option None is = (refl, cc)
      by_option (Some x) is = cc

-- one more entry in its place
put-push : (row ws : List Watcher) (w : Watcher) → length ws < length row → set (put_into row ws) (length ws) w ≡ put_into row (ws ++ w ∷ [])
put-push row ws w within =
    ap (λ l. set (ws ++ l) (length ws) w) (drop_more row (length ws) w within) ∙ set_at ws _ (drop (length ws + 1) row) w (length ws) refl ∙ sym (append_assoc ws (w ∷ []) (drop (length ws + 1) row)) ∙ ap (λ n. (ws ++ w ∷ []) ++ drop n row) (sym (length_push ws w))

kept : List Watcher → (n : ℕ) → n ≤ 5 → ShortList Watcher 5
kept row n few = record { places = row; count = n; few = few }

-- that there are few entries has one proof
kept_same : (row : List Watcher) (n k : ℕ) → n ≡ k → (few : n ≤ 5) (also : k ≤ 5) → kept row n few ≡ kept row k also
kept_same row n k e few = subst (λ (j : ℕ). (also : j ≤ 5) → kept row n few ≡ kept row j also) e (λ also. ap (kept row n) (le_prop few also))

-- the watchers that the parts so far name stand in the list
pub record Gathered (zones seen : List (List ℕ)) (s : ShortList Watcher 5) : Type 0 where
  pub named : watchers_named zones seen ≡ Some (entries_of s)
  pub many : length (entries_of s) ≡ length seen
  pub places : s.places ≡ put_into (replicate 5 All) (entries_of s)

module _ (zones : List (List ℕ)) where
  module _ (seen : List (List ℕ)) (s : ShortList Watcher 5) (sofar : Gathered zones seen s) where
    counted : length (entries_of s) ≡ s.count
    counted =
        let few = s.few in
        let put = ap length sofar.places in
        let taken = length-take s.count s.places in
        let whole = length-append (entries_of s) (drop (length (entries_of s)) (replicate 5 All)) in
        let rest = length-drop (length (entries_of s)) (replicate 5 All) in
        omega arith

    pub gathered_more : (part : List ℕ) (w : Watcher) (t : ShortList Watcher 5) → Ok w ≡ ok_or (watcher_of zones part) NotListed → length (entries_of s) < 5 → entries_of t ≡ entries_of s ++ w ∷ [] → t.places ≡ set s.places s.count w → Gathered zones (seen ++ part ∷ []) t
    gathered_more part w t is room more put = record {
      named = named-append zones seen (part ∷ []) (entries_of s) sofar.named ∙ ap (λ o. option_map (λ l. entries_of s ++ l) (followed o (Some []))) (there _ _ is) ∙ ap Some (sym more);
      many = ap length more ∙ length_push (entries_of s) w ∙ ap (λ n. n + 1) sofar.many ∙ sym (length_push seen part);
      places = put ∙ ap (λ l. set l s.count w) sofar.places ∙ ap (λ n. set (put_into (replicate 5 All) (entries_of s)) n w) (sym counted) ∙ put-push (replicate 5 All) (entries_of s) w room ∙ ap (put_into (replicate 5 All)) (sym more);
    }

    pub gathering_fails : (why : NoFact) (part : List ℕ) (rest : List (List ℕ)) → Err why ≡ ok_or (watcher_of zones part) NotListed → ◌≡◌ {A = Result (ShortList Watcher 5) NoFact} (Err why) (ok_or (option_map (short_list All) (watchers_named zones (seen ++ part ∷ rest))) NotListed)
    gathering_fails why part rest unlisted =
        let none = not_there _ _ unlisted in
        ap Err none.1 ∙ sym (ap (λ o. ok_or (option_map (short_list {N = 5} All) o) NotListed) (named-append zones seen (part ∷ rest) (entries_of s) sofar.named ∙ ap (λ o. option_map (λ l. entries_of s ++ l) (followed o (watchers_named zones rest))) none.0))

    pub gathered_all : Ok s ≡ ok_or (option_map (short_list All) (watchers_named zones seen)) NotListed
    unfolding kept
    gathered_all =
        let few = s.few in
        let five : s.count ≡ min (length (entries_of s)) 5 = omega (arith, counted) in
        ap (λ row. Ok (kept row s.count few)) sofar.places ∙ ap Ok (kept_same (put_into (replicate 5 All) (entries_of s)) s.count (min (length (entries_of s)) 5) five few (short_list {N = 5} All (entries_of s)).few) ∙ sym (ap (λ o. ok_or (option_map (short_list All) o) NotListed) sofar.named)

-- a push that nothing refuses is taken
pub taken : {E : Type 0} (P : Type 0) (Q : E → Type 0) (r : Result (Unit {0}) E) → MatchResult r (λ _. P) Q → ((e : E) → Q e → ⊥) → IsOk r
taken P Q (Ok u) h room = refl
taken P Q (Err e) h room = absurd (room e h)

-- a turn of a walk over parts: those that were seen, the part in hand, and those after it
module _ {S : Type 0} {steps : S → Option (Bor (List ℕ)) → S → Type 0} {s : S} {all : List (List ℕ)} (road : YieldsList steps (λ p. p.now) s all) (seen : List (Bor (List ℕ))) (t u : S) (led : Yields steps s seen t) (r : Option (Bor (List ℕ))) (part : Bor (List ℕ)) (is : r ≡ Some part) (step : steps t r u) where
  pub parts_on : all ≡ map (λ p. p.now) seen ++ part.now ∷ drop (length seen + 1) all
  parts_on =
      let turn = YieldsList-turn road seen t led r u part is step in
      sym (take-append-drop (length seen) all) ∙ ap (λ l. l ++ drop (length seen) all) (sym (YieldsList-so_far road seen t led)) ∙ ap (λ l. map (λ p. p.now) seen ++ l) (drop_more all (length seen) part.now turn.0 ∙ ap (λ p. p ∷ drop (length seen + 1) all) (sym turn.1))
