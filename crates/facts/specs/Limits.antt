-- How many watchers the facts of the kinds have at most. Assumes nothing.
use Rattle.std.proofs.Common.{◌≡◌, ℕ, ◌≤◌, Bool, true, false, cond, eqb, not, ◌&&◌, nat_le, List, [], ◌∷◌, get_or, length, Ok, Err, codes, sym, refl, ap, ◌∙◌, arith}
use Rattle.std.specs.List.{All}
use Rattle.std.proofs.lemmas.Bool.{and_parts, leb-true, eqb-true, false≢true}
use Rattle.std.proofs.lemmas.List.Folds.{list_all_at}
use Rattle.std.proofs.lemmas.List.Splits.{slice_split_none}
use Rattle.sheets.specs.Bytes.{every}
use Rattle.sheets.specs.Listed.{place_of}
use Rattle.sheets.specs.Names.{name_byte, is_all, is_name}
use Rattle.facts.specs.declared.names.NoFact.TheVariants.{NotItsForm}
use Rattle.facts.specs.Meaning.{AtMost, Reached}
use Rattle.facts.specs.Parts.{parts_of, fitting, formed, watchers_in, last_of}
use Rattle.facts.specs.Plain.{plain_fact, plain_reading}
use Rattle.facts.specs.Sight.{sight_fact, sight_reading}

-- a name's byte is no full stop
no_stop : (b : ℕ) → name_byte b ≡ true → eqb b 46 ≡ false
no_stop b name = by_stop (eqb b 46) refl
  where
    by_stop : (stop : Bool) → eqb b 46 ≡ stop → eqb b 46 ≡ false
    by_stop false is = is
    by_stop true is = absurd (false≢true (sym (ap name_byte (eqb-true b 46 is)) ∙ name))

-- a name is one part
one_part : (text : List ℕ) → every name_byte text ≡ true → parts_of text ≡ text ∷ []
one_part text names = slice_split_none (λ b. eqb b 46) text each
  where
    each : All (λ b. eqb b 46 ≡ false) text
    each k d l = by_byte (name_byte (get_or text k d)) refl
      where
        by_byte : (name : Bool) → name_byte (get_or text k d) ≡ name → eqb (get_or text k d) 46 ≡ false
        by_byte true is = no_stop (get_or text k d) is
        by_byte false is = absurd (false≢true (sym (list_all_at name_byte text k d l is) ∙ names))

pub plain_at_most : (matters : List (List ℕ)) → AtMost (plain_reading matters) 0
plain_at_most matters text f is = by_form (is_name text) refl is
  where
    by_form : (form : Bool) → is_name text ≡ form → cond form (plain_fact (place_of text matters)) (Err NotItsForm) ≡ Ok f → length (parts_of text) ≤ 1
    by_form true form is =
        let front = (and_parts (nat_le 1 (length text) && nat_le (length text) 8 && every name_byte text) (not (is_all text)) form).0 in
        let bytes = (and_parts (nat_le 1 (length text) && nat_le (length text) 8) (every name_byte text) front).1 in
        omega (arith, ap length (one_part text bytes))
    by_form false form is = cc

pub sight_at_most : (zones matters : List (List ℕ)) → AtMost (sight_reading zones matters) 5
sight_at_most zones matters text f is = by_form (formed (parts_of text)) refl is
  where
    by_form : (form : Bool) → formed (parts_of text) ≡ form → cond form (sight_fact (watchers_in zones (parts_of text)) (place_of (last_of (parts_of text)) matters)) (Err NotItsForm) ≡ Ok f → length (parts_of text) ≤ 6
    by_form true form is = leb-true (length (parts_of text)) 6 (and_parts _ (fitting (parts_of text)) form).0
    by_form false form is = cc

pub plain_reached : Reached (λ listing. plain_reading listing.matters) 0
plain_reached = (record { zones = []; matters = codes "a" ∷ [] }, codes "a", record { matter = 0 }, refl, refl)

pub sight_reached : Reached (λ listing. sight_reading listing.zones listing.matters) 5
sight_reached = (record { zones = codes "a" ∷ codes "b" ∷ []; matters = codes "c" ∷ [] }, codes "a.b.a.b.a.c", _, refl, refl)
