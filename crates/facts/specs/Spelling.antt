-- A fact gives its text back. Assumes nothing.
use Rattle.std.proofs.Common.{◌≡◌, ℕ, ◌<◌, min, Bool, true, false, cond, List, [], ◌∷◌, ◌++◌, map, length, get_or, drop, replicate, Some, None, Ok, Err, codes, Decides, Option, Result, sym, refl, ap, ◌∙◌, arith, length-append}
use lib.ListN.{length-map}
use Rattle.std.specs.Option.{option_map}
use Rattle.std.specs.List.{join_with_byte}
use Rattle.std.proofs.lemmas.Slice.Eq.{bytes_eq-Decides}
use Rattle.std.proofs.lemmas.List.{take_at}
use Rattle.std.proofs.lemmas.Bool.{and_parts, leb-true, eqb-true}
use Rattle.std.proofs.lemmas.Bool.Decides.{Decides-eqb, Decides-and}
use Rattle.sheets.specs.Listed.{place_of}
use Rattle.sheets.specs.Names.{is_all, is_name}
use Rattle.sheets.proofs.Cuts.{some-piece, rejoined_pieces}
use Rattle.sheets.proofs.Sought.{placed}
use Rattle.facts.specs.declared.names.NoFact.{NoFact}
use Rattle.facts.specs.declared.names.NoFact.TheVariants.{NotItsForm}
use Rattle.facts.specs.declared.sighted.SightFact.{SightFact}
use Rattle.facts.specs.declared.sighted.Watcher.{Watcher}
use Rattle.facts.specs.declared.sighted.Watcher.TheVariants.{All, Zone}
use Rattle.facts.specs.Meaning.{ReadsBack, SameByText}
use Rattle.facts.specs.Parts.{parts_of, fitting, formed, watcher_of, followed, watchers_in, last_of, part_for}
use Rattle.facts.specs.Plain.{plain_fact, plain_reading, plain_same, plain_spelled}
use Rattle.facts.specs.Sight.{watchers_of, fact_of, sight_fact, sight_reading, sight_same, sight_spelled}
use Rattle.facts.specs.Carrying.{same_watchers-decides}

-- where the same facts have the same spelling, equal texts are the same fact and no others
module _ {F : Type 0} (reading : List ℕ → Result F NoFact) (same : F → F → Bool) (spelled : F → List ℕ) where
  pub same-by_text : ReadsBack reading spelled → ((f : F) → same f f ≡ true) → ((f g : F) → same f g ≡ true → spelled f ≡ spelled g) → SameByText reading same
  same-by_text back itself spelling one other f g is also = (
    λ e. sym (back one f is) ∙ spelling f g e ∙ back other g also,
    λ e. let again : reading one ≡ reading other = ap reading e in let alike : f ≡ g = cc in ap (same f) (sym alike) ∙ itself f,
  )

pub plain_back : (matters : List (List ℕ)) → ReadsBack (plain_reading matters) (plain_spelled matters)
plain_back matters text f is = by_form (is_name text) (place_of text matters) refl is
  where
    by_form : (form : Bool) (place : Option ℕ) → place_of text matters ≡ place → cond form (plain_fact place) (Err NotItsForm) ≡ Ok f → plain_spelled matters f ≡ text
    by_form true (Some m) found is = let same : record { matter = m } ≡ f = cc in ap (plain_spelled matters) (sym same) ∙ placed text matters m found
    by_form true None found is = cc
    by_form false place found is = cc

pub plain_same-by_text : (matters : List (List ℕ)) → SameByText (plain_reading matters) plain_same
plain_same-by_text matters =
    same-by_text (plain_reading matters) plain_same (plain_spelled matters) (plain_back matters) (λ f. (Decides-eqb f.matter f.matter).1 refl) (λ f g e. ap (λ m. get_or matters m []) (eqb-true f.matter g.matter e))

module _ (zones matters : List (List ℕ)) where
  watcher_back : (part : List ℕ) (w : Watcher) → watcher_of zones part ≡ Some w → part_for zones w ≡ part
  watcher_back part w named = by_word (is_all part) (place_of part zones) refl refl named
    where
      by_word : (all : Bool) (place : Option ℕ) → all ≡ is_all part → place_of part zones ≡ place → cond all (Some All) (option_map Zone place) ≡ Some w → part_for zones w ≡ part
      by_word true place word found named =
          let is : w ≡ All = cc in ap (part_for zones) is ∙ sym ((bytes_eq-Decides part (codes "all")).0 (sym word))
      by_word false (Some z) word found named =
          let is : w ≡ Zone z = cc in ap (part_for zones) is ∙ placed part zones z found
      by_word false None word found named = cc

  parts_back : (parts : List (List ℕ)) (ws : List Watcher) → 0 < length parts → watchers_in zones parts ≡ Some ws → map (part_for zones) ws ++ last_of parts ∷ [] ≡ parts
  parts_back [] ws some named = absurd (omega arith)
  parts_back (p ∷ []) ws some named = let none : ws ≡ [] = cc in ap (λ l. map (part_for zones) l ++ p ∷ []) none
  parts_back (p ∷ q ∷ ps) ws some named = by_parts (watcher_of zones p) (watchers_in zones (q ∷ ps)) refl refl (λ l rest. parts_back (q ∷ ps) l (omega arith) rest) named
    where
      by_parts : (first : Option Watcher) (others : Option (List Watcher)) → watcher_of zones p ≡ first → watchers_in zones (q ∷ ps) ≡ others → ((l : List Watcher) → watchers_in zones (q ∷ ps) ≡ Some l → map (part_for zones) l ++ last_of (q ∷ ps) ∷ [] ≡ q ∷ ps) → followed first others ≡ Some ws → map (part_for zones) ws ++ last_of (q ∷ ps) ∷ [] ≡ p ∷ q ∷ ps
      by_parts None others one rest later named = cc
      by_parts (Some w) None one rest later named = cc
      by_parts (Some w) (Some l) one rest later named =
          let is : ws ≡ w ∷ l = cc in
          ap (λ v. map (part_for zones) v ++ last_of (q ∷ ps) ∷ []) is ∙ ap (λ t. t ∷ (map (part_for zones) l ++ last_of (q ∷ ps) ∷ [])) (watcher_back p w one) ∙ ap (λ t. p ∷ t) (later l rest)

  fact_back : (text : List ℕ) (ws : List Watcher) (m : ℕ) → formed (parts_of text) ≡ true → watchers_in zones (parts_of text) ≡ Some ws → place_of (last_of (parts_of text)) matters ≡ Some m → sight_spelled zones matters (fact_of ws m) ≡ text
  fact_back text ws m form named listed =
      let whole = parts_back (parts_of text) ws (some-piece 46 text) named in
      let few = leb-true (length (parts_of text)) 6 (and_parts _ (fitting (parts_of text)) form).0 in
      let count : length ws ≡ min (length ws) 5 = omega (arith, ap length whole, length-append (map (part_for zones) ws) (last_of (parts_of text) ∷ []), length-map ws (part_for zones)) in
      let seen : watchers_of (fact_of ws m) ≡ ws = take_at ws (drop (length ws) (replicate 5 All)) (min (length ws) 5) count in
      ap (λ l. join_with_byte 46 (map (part_for zones) l ++ get_or matters m [] ∷ [])) seen ∙ ap (λ t. join_with_byte 46 (map (part_for zones) ws ++ t ∷ [])) (placed (last_of (parts_of text)) matters m listed) ∙ ap (join_with_byte 46) whole ∙ rejoined_pieces 46 text

  pub sight_back : ReadsBack (sight_reading zones matters) (sight_spelled zones matters)
  sight_back text f is = by_form (formed (parts_of text)) (watchers_in zones (parts_of text)) (place_of (last_of (parts_of text)) matters) refl refl refl is
    where
      by_form : (form : Bool) (named : Option (List Watcher)) (place : Option ℕ) → formed (parts_of text) ≡ form → watchers_in zones (parts_of text) ≡ named → place_of (last_of (parts_of text)) matters ≡ place → cond form (sight_fact named place) (Err NotItsForm) ≡ Ok f → sight_spelled zones matters f ≡ text
      by_form true (Some ws) (Some m) form named found is = let same : fact_of ws m ≡ f = cc in ap (sight_spelled zones matters) (sym same) ∙ fact_back text ws m form named found
      by_form true (Some ws) None form named found is = cc
      by_form true None place form named found is = cc
      by_form false named place form found listed is = cc

  pub sight_same-by_text : SameByText (sight_reading zones matters) sight_same
  sight_same-by_text = same-by_text (sight_reading zones matters) sight_same (sight_spelled zones matters) sight_back (λ f. (told f f).1 (refl, refl)) (λ f g e. let both = (told f g).0 e in ap (λ l. join_with_byte 46 (map (part_for zones) l ++ get_or matters f.matter [] ∷ [])) both.1 ∙ ap (λ m. join_with_byte 46 (map (part_for zones) (watchers_of g) ++ get_or matters m [] ∷ [])) both.0)
    where
      told : (f g : SightFact) → Decides (sight_same f g) ((f.matter ≡ g.matter) × (watchers_of f ≡ watchers_of g))
      told f g = Decides-and _ _ (Decides-eqb f.matter g.matter) (same_watchers-decides (watchers_of f) (watchers_of g))
