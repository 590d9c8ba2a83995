-- Rows that are marked by carrying. Assumes nothing.
use Rattle.std.specs.List.{slice_get, list_any}
use Rattle.std.specs.Option.{option_map}
use Rattle.std.specs.Slice.{IsItemAt}
use Rattle.std.proofs.lemmas.Option.{slice_get_past, slice_get_read}
use Rattle.std.proofs.Common.{Bor, ◌≡◌, ℕ, zero, suc, ◌+◌, ◌<◌, ◌≤◌, Bool, false, ◌||◌, List, [], ◌∷◌, map, length, get_or, take, Some, None, Option, sym, refl, ap, ◌∙◌, arith}
use Rattle.std.proofs.Math.Bool.{or-false}
use Rattle.std.proofs.lemmas.Bool.Decides.{nat_tests}
use Rattle.std.proofs.lemmas.Grind.{common_steps}
use Rattle.facts.specs.Listed.{also_marked}
use Rattle.formulas.specs.Truth.{stands_in}
use Rattle.sheets.specs.Numbered.{entry_at}
use Rattle.walkthroughs.specs.Kinds.{between, carries_among, listed_fact}

-- a test of a fact, if it is there
abbrev passes : {F : Type 0} → (F → Bool) → Option F → Bool
passes test None = false
passes test (Some f) = test f

-- a row marked at the facts that pass a test
also_marked-at : {F : Type 0} (test : F → Bool) (facts : List F) (row : List Bool) (i : ℕ) → length facts ≤ length row → get_or (also_marked test facts row) i false ≡ (get_or row i false || passes test (get_or (map Some facts) i None))
also_marked-at test [] row i few = sym (or-false (get_or row i false))
also_marked-at test (x ∷ facts) [] i few = absurd (omega arith)
also_marked-at test (x ∷ facts) (b ∷ row) zero few = refl
also_marked-at test (x ∷ facts) (b ∷ row) (suc i) few = also_marked-at test facts row i (omega arith)

also_marked-stands : {F : Type 0} (test : F → Bool) (facts : List F) (row : List Bool) (f : ℕ) → length facts ≤ length row → stands_in (also_marked test facts row) f ≡ (stands_in row f || passes test (listed_fact facts f))
also_marked-stands test facts row zero few = refl
also_marked-stands test facts row (suc i) few = let at = also_marked-at test facts row i few in grind (arith, nat_tests)

-- what a slice has at a place
pub item_at : {X : Type 0} (xs : List X) (i : ℕ) (r : Option (Bor X)) → IsItemAt xs i r → option_map (λ x. x.now) r ≡ slice_get xs i
item_at xs i None got = sym (slice_get_past xs i got.3)
item_at xs i (Some x) got = sym (slice_get_read xs (length xs) i x.now refl got.3.0 got.1)

-- the fact with a number, as a depot shows it
pub entry_listed : {F : Type 0} (facts : List F) (n : ℕ) → entry_at facts n ≡ listed_fact facts n
entry_listed facts zero = refl
entry_listed {F = F} facts (suc i) = at facts i
  where
    at : (facts : List F) (i : ℕ) → slice_get facts i ≡ get_or (map Some facts) i None
    at [] i = refl
    at (x ∷ facts) zero = refl
    at (x ∷ facts) (suc i) = at facts i

module _ {F : Type 0} (by : F → F → Bool) (facts : List F) (row : List Bool) (n f : ℕ) where
  -- what is marked by a fact that is listed, and by one that is not
  pub marked_by : (x : F) (after : List Bool) → length facts ≤ length row → Some x ≡ listed_fact facts n → after ≡ also_marked (by x) facts row → stands_in after f ≡ (stands_in row f || carries_among by facts n f)
  marked_by x after few is marks = let at = also_marked-stands (by x) facts row f few in let same = passes_is (listed_fact facts f) in cc
    where
      passes_is : (o : Option F) → (stands_in row f || passes (by x) o) ≡ (stands_in row f || between by (Some x) o)
      passes_is None = refl
      passes_is (Some y) = refl

  pub unlisted_by : None ≡ listed_fact facts n → stands_in row f ≡ (stands_in row f || carries_among by facts n f)
  unlisted_by is = sym (or-false (stands_in row f)) ∙ ap (λ o. stands_in row f || between by o (listed_fact facts f)) is

-- carrying, the other way round
pub any_turned : {F : Type 0} (carries : F → F → Bool) (facts : List F) (f : ℕ) (numbers : List ℕ) → list_any (λ g. carries_among (λ a b. carries b a) facts g f) numbers ≡ list_any (λ g. carries_among carries facts f g) numbers
any_turned {F = F} carries facts f [] = refl
any_turned {F = F} carries facts f (g ∷ numbers) = ap (λ b. b || list_any (λ g. carries_among (λ a b. carries b a) facts g f) numbers) (turned (listed_fact facts g) (listed_fact facts f)) ∙ ap (λ b. carries_among carries facts f g || b) (any_turned carries facts f numbers)
  where
    turned : (o p : Option F) → between (λ a b. carries b a) o p ≡ between carries p o
    turned None None = refl
    turned None (Some y) = refl
    turned (Some x) None = refl
    turned (Some x) (Some y) = refl

-- marks that have been added by the first i of some entries
module _ {X : Type 0} (p : X → Bool) (xs : List X) where
  abbrev pub Spreading : Bool → Bool → ℕ → Type 0
  Spreading before now i = now ≡ (before || list_any p (take i xs))

  pub spread_more : (before now next : Bool) (i : ℕ) (x : X) → i < length xs → x ≡ get_or xs i x → Spreading before now i → next ≡ (now || p x) → Spreading before next (i + 1)
  spread_more before now next i x within is sofar more = grind (arith, common_steps)

  pub spread_all : (before now : Bool) (i : ℕ) → length xs ≤ i → Spreading before now i → now ≡ (before || list_any p xs)
  spread_all before now i end sofar = grind (arith, common_steps)

pub any-map : {X Y : Type 0} (p : Y → Bool) (f : X → Y) (xs : List X) → list_any (λ x. p (f x)) xs ≡ list_any p (map f xs)
any-map p f [] = refl
any-map p f (x ∷ xs) = ap (λ b. p (f x) || b) (any-map p f xs)
