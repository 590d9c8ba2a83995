-- Carrying among listed facts, by number, has the laws that its kind shows. Assumes nothing.
use Rattle.std.proofs.Common.{◌≡◌, ℕ, zero, suc, ◌<◌, Bool, true, false, ◌⊎◌, List, [], ◌∷◌, map, length, get_or, Some, None, Option, sym, refl, ◌∙◌, inl, inr, arith}
use Rattle.std.proofs.lemmas.List.{get_or_past, length-map}
use Rattle.std.proofs.lemmas.Bool.{cases_lt, false≢true}
use Rattle.walkthroughs.specs.Depots.{Carrying, Depot, Listed}
use Rattle.walkthroughs.specs.Kinds.{between, carries_among, listed_fact}

module _ {F : Type 0} (carries : F → F → Bool) (facts : List F) where
  absent_or_listed : (n : ℕ) → (listed_fact facts n ≡ None) ⊎ Listed n (length facts)
  absent_or_listed zero = inl refl
  absent_or_listed (suc k) = elim (cases_lt k (length facts)) [ inl in' ↦ inr (omega arith, omega arith) | inr past ↦ inl (get_or_past (map Some facts) k None (rw (length-map facts (λ (x : F). Some x)) past)) ]

  none_after : (o : Option F) → between carries o None ≡ false
  none_after None = refl
  none_after (Some f) = refl

  pub among-listed : (f g : ℕ) → carries_among carries facts f g ≡ true → Listed f (length facts) × Listed g (length facts)
  among-listed f g h = (elim (absent_or_listed f) [ inr l ↦ l | inl k ↦ absurd (false≢true (rw k at h)) ], elim (absent_or_listed g) [ inr l ↦ l | inl k ↦ absurd (false≢true (sym (none_after (listed_fact facts f)) ∙ rw k at h)) ])

  pub among-onward : ((a b c : F) → carries a b ≡ true → carries b c ≡ true → carries a c ≡ true) → (f g h : ℕ) → carries_among carries facts f g ≡ true → carries_among carries facts g h ≡ true → carries_among carries facts f h ≡ true
  among-onward onward f g h = through (listed_fact facts f) (listed_fact facts g) (listed_fact facts h)
    where
      through : (a b c : Option F) → between carries a b ≡ true → between carries b c ≡ true → between carries a c ≡ true
      through None b c p q = p
      through (Some a) None c p q = absurd (false≢true p)
      through (Some a) (Some b) None p q = q
      through (Some a) (Some b) (Some c) p q = onward a b c p q

listed-fact : {F : Type 0} (facts : List F) (k : ℕ) → k < length facts → (f : F) × (get_or (map Some facts) k None ≡ Some f)
listed-fact [] k h = absurd (omega arith)
listed-fact (f ∷ facts) zero h = (f, refl)
listed-fact (f ∷ facts) (suc k) h = listed-fact facts k (omega arith)

pub among-itself : {F : Type 0} (carries : F → F → Bool) (facts : List F) → ((a : F) → carries a a ≡ true) → (f : ℕ) → Listed f (length facts) → carries_among carries facts f f ≡ true
among-itself carries facts itself zero l = absurd (omega (arith, l.0))
among-itself {F} carries facts itself (suc k) l = at (listed-fact facts k (omega (arith, l.1)))
  where
    at : ((f : F) × (get_or (map Some facts) k None ≡ Some f)) → carries_among carries facts (suc k) (suc k) ≡ true
    at (f, here) = rw here (itself f)

-- a depot that takes its carrying from listed facts of a kind
pub carrying_among : {F : Type 0} (carries : F → F → Bool) (facts : List F) → ((a : F) → carries a a ≡ true) → ((a b c : F) → carries a b ≡ true → carries b c ≡ true → carries a c ≡ true) → (d : Depot) → d.facts ≡ length facts → d.carries ≡ carries_among carries facts → Carrying d
carrying_among carries facts itself onward d count by = record { listed = rw (by, count) (among-listed carries facts); itself = rw (by, count) (among-itself carries facts itself); onward = rw by (among-onward carries facts onward) }
