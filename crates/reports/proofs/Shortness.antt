-- How much a read depot lists, and how much a read plan. Assumes nothing.
use Rattle.std.proofs.Common.{◌≡◌, ℕ, ◌+◌, ◌*◌, ◌<◌, ◌≤◌, suc, Bool, true, false, cond, not, ◌&&◌, ◌||◌, ◌⊎◌, nat_le, List, [], ◌∷◌, ◌++◌, codes, length, take, Some, Ok, Err, Result, sym, refl, ap, ◌∙◌, subst, inl, inr, arith, length-append, append_assoc}
use Rattle.std.specs.List.{AllByRecursion, join_with_byte, slice_get}
use Rattle.std.proofs.Math.Seq.{take-append_seam}
use Rattle.std.proofs.lemmas.Bool.{and_parts, leb-true}
use Rattle.std.proofs.lemmas.Bool.Decides.{nat_tests}
use Rattle.std.proofs.lemmas.List.{length-take-le}
use Rattle.std.proofs.lemmas.Option.{slice_get-get_or}
use Rattle.std.proofs.lemmas.Slice.Eq.{bytes_eq-Decides}
use Rattle.sheets.specs.Bytes.{every}
use Rattle.sheets.specs.declared.letters.Letter.{Letter}
use Rattle.sheets.specs.declared.letters.Letter.TheVariants as letter
use Rattle.sheets.specs.declared.refusals.Refusal.TheVariants.{TableFull}
use Rattle.sheets.specs.Faults.{SheetFaultless}
use Rattle.sheets.specs.Faults.SheetFault.{line}
use Rattle.sheets.specs.Layout.{Unfinished, depot_limit}
use Rattle.sheets.specs.Lines.{Line, lines_of}
use Rattle.sheets.specs.Names.{is_all, is_name, name_byte}
use Rattle.sheets.proofs.Cuts.{rejoined_pieces}
use Rattle.facts.specs.declared.names.NoFact.{NoFact}
use Rattle.facts.specs.declared.names.NoFact.TheVariants.{NotItsForm}
use Rattle.facts.specs.Parts.{fitting, formed, is_watcher, parts_of}
use Rattle.facts.specs.Texts.{Listing}
use Rattle.depots.specs.Kinds.{Meaning, plain_meaning, sight_meaning}
use Rattle.depots.specs.Spelling.{Adds, DepotRead, Spelled, SpelledFrom, Wrong, fields_on}
use Rattle.depots.specs.Tables.{Tables, no_tables}
use Rattle.depots.specs.Wrong.{Fields, Overfull}
use Rattle.depots.proofs.Added.{spelled-push}
use Rattle.plans.specs.Spelling.{PlanRead}
use Rattle.plans.specs.Wrong.LineWrong.{full as full_plan}
use Rattle.plans.proofs.Walk.{spelled_length}

-- what a depot lists of facts is within its limits
abbrev pub Few : {F : Type 0} → Tables F → Type 0
Few t = (length t.texts ≡ length t.facts) × (length t.facts ≤ 128) × AllByRecursion (λ text. length text ≤ 53) t.texts

-- a kind's facts have short texts
abbrev pub ShortTexts : {F : Type 0} → Meaning F → Type 0
ShortTexts {F} m = (names : Listing) (text : List ℕ) (f : F) → m.reading names text ≡ Ok f → length text ≤ 53

all-push : (texts : List (List ℕ)) (text : List ℕ) → AllByRecursion (λ text. length text ≤ 53) texts → length text ≤ 53 → AllByRecursion (λ text. length text ≤ 53) (texts ++ text ∷ [])
all-push [] text short one = (one, tt)
all-push (other ∷ texts) text short one = (short.0, all-push texts text short.1 one)

at-seam : (above : List Line) (l : Line) (ls : List Line) → slice_get (above ++ l ∷ ls) (length above) ≡ Some l
at-seam [] l ls = refl
at-seam (a ∷ above) l ls = at-seam above l ls

one-more : (n k : ℕ) → n ≤ 128 → (128 ≤ n → ⊥) → k ≡ n + 1 → k ≤ 128
one-more n k few room is = omega arith

module _ {F : Type 0} (m : Meaning F) (short : ShortTexts m) where
  grows : (k : Letter) (f : Fields) (t u : Tables F) → Few t → (Overfull m t k f → ⊥) → Adds m t k f u → Few u
  grows letter.Kind f t u few room e = subst Few (sym e) few
  grows letter.Zone f t u few room e = subst Few (sym e) few
  grows letter.Matter f t u few room e = subst Few (sym e) few
  grows letter.Fact f t u few room e = subst Few (sym e.2) (
    length-append t.texts (f.second ∷ []) ∙ ap (λ n. n + 1) few.0 ∙ sym (length-append t.facts (e.0 ∷ [])),
    one-more (length t.facts) _ few.1 room (length-append t.facts (e.0 ∷ [])),
    all-push t.texts f.second few.2 (short _ f.second e.0 e.1),
  )
  grows letter.Start f t u few room e = subst Few (sym e.2) few
  grows letter.Move f t u few room e = subst Few (sym e.2) (subst Few (sym e.1.adds) few)
  grows letter.Effect f t u few room e = subst Few (sym e.2.4) (subst Few (sym e.1.adds) few)
  grows letter.Goal f t u few room e = subst Few (sym e.2) (subst Few (sym e.1.adds) few)

  module _ (s : List ℕ) (clear : SheetFaultless depot_limit (Wrong m) Unfinished s) where
    few-from : (above : List Line) (t : Tables F) (ls : List Line) (u : Tables F) → above ++ ls ≡ lines_of s → Spelled m above t → Few t → SpelledFrom m t ls u → Few u
    few-from above t [] u whole spelled few e = subst Few (sym e) few
    few-from above t (l ∷ ls) u whole spelled few (k, v, is, adds, rest) =
        few-from (above ++ l ∷ []) v ls u (append_assoc above (l ∷ []) ls ∙ whole) (spelled-push m no_tables above t l k v spelled is adds) (grows k (fields_on l) t v few room adds) rest
      where
        here : slice_get (lines_of s) (length above) ≡ Some l
        here = subst (λ xs. slice_get xs (length above) ≡ Some l) whole (at-seam above l ls)

        before : take (length above) (lines_of s) ≡ above
        before = subst (λ xs. take (length above) xs ≡ above) whole (take-append_seam above (l ∷ ls))

        room : Overfull m t k (fields_on l) → ⊥
        room over = clear _ TableFull (line (length above) l here (inr (t, subst (λ xs. Spelled m xs t) (sym before) spelled, (k, is, inr (refl, over)))))

  pub few-facts : (s : List ℕ) (t : Tables F) → DepotRead m s t → Few t
  few-facts s t read = few-from s read.faultless [] no_tables (lines_of s) t refl refl (refl, omega arith, tt) read.spelled

-- names and facts have short texts
name-short : (text : List ℕ) → is_name text ≡ true → length text ≤ 8
name-short text is = by_parts (nat_le 1 (length text)) (length text) (every name_byte text) (not (is_all text)) is
  where
    by_parts : (a : Bool) (n : ℕ) (c d : Bool) → (a && nat_le n 8 && c && d) ≡ true → n ≤ 8
    by_parts a n c d e = grind (arith, nat_tests)

either : (x y : Bool) → (x || y) ≡ true → (x ≡ true) ⊎ (y ≡ true)
either true y e = inl refl
either false y e = inr e

watcher-short : (part : List ℕ) → is_watcher part ≡ true → length part ≤ 8
watcher-short part is = by_case (either (is_all part) (is_name part) is)
  where
    by_case : (is_all part ≡ true) ⊎ (is_name part ≡ true) → length part ≤ 8
    by_case (inl all) = omega (arith, ap length ((bytes_eq-Decides part (codes "all")).0 all))
    by_case (inr name) = name-short part name

fitting-short : (parts : List (List ℕ)) → fitting parts ≡ true → suc (length (join_with_byte 46 parts)) ≤ 9 * length parts
fitting-short [] is = cc
fitting-short (p ∷ []) is = omega (arith, name-short p is)
fitting-short (p ∷ q ∷ parts) is =
    let both = and_parts (is_watcher p) (fitting (q ∷ parts)) is in
    let first = watcher-short p both.0 in
    let rest = fitting-short (q ∷ parts) both.1 in
    omega (arith, first, rest, length-append p (46 ∷ join_with_byte 46 (q ∷ parts)))

gate : {F : Type 0} (b : Bool) (x : Result F NoFact) (why : NoFact) (f : F) → cond b x (Err why) ≡ Ok f → b ≡ true
gate true x why f e = refl
gate false x why f e = cc

pub plain-short : ShortTexts plain_meaning
plain-short names text f read =
    let short : length text ≤ 8 = name-short text (gate (is_name text) _ NotItsForm f read) in
    omega arith

formed-short : (text : List ℕ) → formed (parts_of text) ≡ true → length text ≤ 53
formed-short text is =
    let both = and_parts (nat_le (length (parts_of text)) 6) (fitting (parts_of text)) is in
    let few = leb-true (length (parts_of text)) 6 both.0 in
    omega (arith, few, fitting-short (parts_of text) both.1, ap length (rejoined_pieces 46 text))

pub sight-short : ShortTexts sight_meaning
sight-short names text f read = formed-short text (gate (formed (parts_of text)) _ NotItsForm f read)

-- a read plan has few steps
pub few-steps : (names : List (List ℕ)) (s : List ℕ) (steps : List (List ℕ)) → PlanRead names s steps → length steps ≤ 64
few-steps names s steps read = below (length steps) (λ over. full (omega (arith, spelled_length names (lines_of s) steps read.spelled)))
  where
    below : (n : ℕ) → (64 < n → ⊥) → n ≤ 64
    below n h = omega arith

    full : 64 < length (lines_of s) → ⊥
    full longer = read.faultless _ TableFull (line 64 _ (slice_get-get_or (lines_of s) 64 (record { text = []; ended = true }) longer) (full_plan (omega (arith, length-take-le 64 (lines_of s)))))
