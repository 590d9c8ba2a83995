-- What carries what, by lists of watchers. Assumes nothing.
use Rattle.std.specs.Prelude.{◌≡◌, ℕ, ◌-◌, ◌<◌, ◌≤◌, Bool, true, false, ◌⊎◌, List, [], ◌∷◌, ◌++◌, length, take, drop, Decides, ◌==◌, ◌≢◌, nat_lt, refl}
use Rattle.std.proofs.Common.{sym, ap, ◌∙◌, append_assoc, inl, inr, ⊎_elim, arith, length-append, length-take}
use Rattle.std.specs.Cmp.{IsPartialEquivalence}
use Rattle.std.specs.Cmp.Lexicographic.{pointwise}
use Rattle.std.proofs.lemmas.Slice.Eq.{slice_eq-Decides, ends_is}
use Rattle.std.proofs.lemmas.Bool.{false≢true, le-ltb, cases_Bool}
use Rattle.std.proofs.lemmas.Bool.Decides.{same_from_decides, Decides-eqb, Decides-like, Decides-and, Decides-or}
use Rattle.facts.specs.declared.sighted.SightFact.{SightFact}
use Rattle.facts.specs.declared.sighted.Watcher.{Watcher}
use Rattle.facts.specs.declared.sighted.Watcher.TheVariants.{All, Zone}
use Rattle.facts.specs.Sight.{watchers_of, sight_carries, Carries}
use Rattle.facts.specs.Watchers.{same_watcher, same_watchers, above, carries_jointly, CarriesJointly, carries_by, CarriesBy}

apart : {v w : Watcher} → (n : ℕ) → v ≡ All → w ≡ Zone n → v ≢ w
apart n p q e = cc

empty : {w : Watcher} {ws : List Watcher} → [] ≢ w ∷ ws
empty e = cc

pub same_watcher-decides : (v w : Watcher) → Decides (same_watcher v w) (v ≡ w)
same_watcher-decides All All = (λ _. refl, λ _. refl)
same_watcher-decides All (Zone b) = (λ e. absurd (false≢true e), λ e. absurd (apart b refl refl e))
same_watcher-decides (Zone a) All = (λ e. absurd (false≢true e), λ e. absurd (apart a refl refl (sym e)))
same_watcher-decides (Zone a) (Zone b) = Decides-like (a == b) (λ e. ap Zone e) (λ e. cc) (Decides-eqb a b)

-- being the same is symmetric and transitive
pub same_watcher_laws : IsPartialEquivalence same_watcher
same_watcher_laws = record {
  symm = λ v w. same_from_decides (same_watcher v w) (same_watcher w v) (turned v w) (same_watcher-decides w v);
  trans = λ u v w p q. (same_watcher-decides u w).1 ((same_watcher-decides u v).0 p ∙ (same_watcher-decides v w).0 q);
}
  where
    turned : (v w : Watcher) → Decides (same_watcher v w) (w ≡ v)
    turned v w = let d = same_watcher-decides v w in (λ e. sym (d.0 e), λ e. d.1 (sym e))

pub same_watchers-decides : (a b : List Watcher) → Decides (same_watchers a b) (a ≡ b)
same_watchers-decides a b = slice_eq-Decides same_watcher-decides a b (same_watchers a b) refl

-- one or more watchers and then r
abbrev Above : List Watcher → List Watcher → Type 0
Above r b = (ws : List Watcher) × (b ≡ ws ++ r) × (0 < length ws)

above-decides : (r b : List Watcher) → Decides (above r b) (Above r b)
above-decides r [] =
    (λ e. absurd (false≢true e), λ h. let none = ap length h.1 in absurd (omega (arith, none, length-append h.0 r, h.2)))
above-decides r (w ∷ b) = Decides-like _ more less (Decides-or _ _ (same_watchers-decides b r) (above-decides r b))
  where
    more : (b ≡ r) ⊎ Above r b → Above r (w ∷ b)
    more (inl e) = (w ∷ [], ap (λ l. w ∷ l) e, omega arith)
    more (inr h) = (w ∷ h.0, ap (λ l. w ∷ l) h.1, omega arith)

    by_front : (ws : List Watcher) → w ∷ b ≡ ws ++ r → 0 < length ws → (b ≡ r) ⊎ Above r b
    by_front [] e some = absurd (omega arith)
    by_front (v ∷ []) e some = inl (cc)
    by_front (v ∷ u ∷ us) e some = inr (u ∷ us, cc, omega arith)

    less : Above r (w ∷ b) → (b ≡ r) ⊎ Above r b
    less h = by_front h.0 h.1 h.2

carries_jointly-decides : (a b : List Watcher) → Decides (carries_jointly a b) (CarriesJointly a b)
carries_jointly-decides [] b = (λ e. absurd (false≢true e), λ h. absurd (empty h.2))
carries_jointly-decides (All ∷ r) b = Decides-like _ out back (above-decides r b)
  where
    out : Above r b → CarriesJointly (All ∷ r) b
    out h = (r, h.0, refl, h.1, h.2)

    back : CarriesJointly (All ∷ r) b → Above r b
    back h = let e = h.2 in let f = h.3 in let tail : h.0 ≡ r = cc in (h.1, f ∙ ap (λ l. h.1 ++ l) tail, h.4)
carries_jointly-decides (Zone z ∷ r) b =
    (λ e. absurd (false≢true e), λ h. let e = h.2 in let f : All ≡ Zone z = cc in absurd (apart z refl refl f))

-- the test decides carrying in words
carries_by-decides : (a b : List Watcher) → Decides (carries_by a b) (CarriesBy a b)
carries_by-decides a b = Decides-or _ _ (same_watchers-decides a b) (carries_jointly-decides a b)

carries_by-trans : (a b c : List Watcher) → CarriesBy a b → CarriesBy b c → CarriesBy a c
carries_by-trans a b c (inl e) g = rw e g
carries_by-trans a b c (inr f) (inl e) = inr (f.0, f.1, f.2, sym e ∙ f.3, f.4)
carries_by-trans a b c (inr f) (inr g) = by_front f.1 f.3 f.4
  where
    by_front : (ws : List Watcher) → b ≡ ws ++ f.0 → 0 < length ws → CarriesBy a c
    by_front [] e some = absurd (omega arith)
    by_front (w ∷ us) e some =
        let p = g.2 in
        let tail : g.0 ≡ us ++ f.0 = cc in
        inr (f.0, g.1 ++ us, f.2, g.3 ∙ ap (λ l. g.1 ++ l) tail ∙ sym (append_assoc g.1 us f.0), omega (arith, length-append g.1 us, g.4))

pub sight_carries-decides : (a b : SightFact) → Decides (sight_carries a b) (Carries a b)
sight_carries-decides a b = Decides-and _ _ (Decides-eqb a.matter b.matter) (carries_by-decides (watchers_of a) (watchers_of b))

pub sight_carries-refl : (a : SightFact) → sight_carries a a ≡ true
sight_carries-refl a = (sight_carries-decides a a).1 (refl, inl refl)

pub sight_carries-trans : (a b c : SightFact) → sight_carries a b ≡ true → sight_carries b c ≡ true → sight_carries a c ≡ true
sight_carries-trans a b c p q =
    let x = (sight_carries-decides a b).0 p in
    let y = (sight_carries-decides b c).0 q in
    (sight_carries-decides a c).1 (x.0 ∙ y.0, carries_by-trans (watchers_of a) (watchers_of b) (watchers_of c) x.1 y.1)

-- what the code's tests of the end of a slice say
module _ (s p : List Watcher) where
  pub watchers_same : (r : Bool) → r ≡ pointwise same_watcher s p → r ≡ same_watchers s p
  watchers_same r told = told

  pub ends_above : (r : Bool) → length p < length s → r ≡ pointwise same_watcher p (drop (length s - length p) s) → r ≡ above p s
  ends_above r longer told =
      let ends = ends_is same_watcher-decides s p r told in
      let some : 0 < length (take (length s - length p) s) = omega (arith, length-take (length s - length p) s) in
      same_from_decides r (above p s) (λ e. (take (length s - length p) s, ends.0 e, some), λ h. ends.1 h.0 h.1) (above-decides p s)

  pub ends_short : length s ≤ length p → nat_lt (length p) (length s) ≡ above p s
  ends_short short =
      le-ltb (length p) (length s) short ∙ sym (⊎_elim (λ (e : above p s ≡ true). absurd (too_long ((above-decides p s).0 e))) (λ (e : above p s ≡ false). e) (cases_Bool (above p s)))
    where
      too_long : Above p s → ⊥
      too_long h = omega (arith, ap length h.1, length-append h.0 p, h.2)
