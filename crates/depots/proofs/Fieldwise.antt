-- The lowest of the troubles with the fields of a line. Assumes nothing.
use Rattle.std.proofs.Common.{◌≡◌, ℕ, ◌+◌, ◌<◌, ◌≤◌, Bool, true, false, leb, List, [], ◌∷◌, Some, None, Option, sym, refl, ap, ◌∙◌, subst, inl, inr, ⊎_elim, arith, MatchOption}
use Rattle.std.proofs.lemmas.Bool.{leb-true, leb-false, cases_lt, cond_both, both_ways}
use Rattle.sheets.specs.declared.refusals.Refusal.{Refusal}
use Rattle.sheets.specs.declared.refusals.Refusal.TheVariants.{TableFull}
use Rattle.sheets.specs.Faults.{NoLater, Lowest}
use Rattle.sheets.specs.Refusals.{number_of, rank_of}
use Rattle.sheets.proofs.Judged.{no_later_itself}
use Rattle.std.proofs.lemmas.Option.{none-some, same_Some}
use Rattle.depots.specs.declared.troubles.Trouble.{Trouble}
use Rattle.depots.specs.declared.troubles.Trouble.TheVariants.{NotItsForm, NotListed, Twice, AlwaysTrue}
use Rattle.depots.specs.Troubles.{refusal_of, lower_of, FieldFault, LineFault, Faultless}

-- the one that is told of what is wrong, if anything is
abbrev pub Told : (Refusal → Type 0) → Option Refusal → Type 0
Told Wrong r = MatchOption r ((w : Refusal) → Wrong w → ⊥) (λ w. Lowest Wrong w)

-- the rank of a trouble with a field: its number, and then the field
ranked : (t : Option Trouble) (field : ℕ) (w : Refusal) → refusal_of t field ≡ Some w → rank_of w ≡ number_of w ∷ field ∷ 0 ∷ 0 ∷ 0 ∷ []
ranked None field w is = absurd (none-some _ is)
ranked (Some NotItsForm) field w is = subst (λ u. rank_of u ≡ number_of u ∷ field ∷ 0 ∷ 0 ∷ 0 ∷ []) (same_Some _ _ is) refl
ranked (Some NotListed) field w is = subst (λ u. rank_of u ≡ number_of u ∷ field ∷ 0 ∷ 0 ∷ 0 ∷ []) (same_Some _ _ is) refl
ranked (Some Twice) field w is = subst (λ u. rank_of u ≡ number_of u ∷ field ∷ 0 ∷ 0 ∷ 0 ∷ []) (same_Some _ _ is) refl
ranked (Some AlwaysTrue) field w is = subst (λ u. rank_of u ≡ number_of u ∷ field ∷ 0 ∷ 0 ∷ 0 ∷ []) (same_Some _ _ is) refl

-- what is wrong with fields from one on is ranked by one of them
ranked-from : (field : ℕ) (ts : List (Option Trouble)) (w : Refusal) → FieldFault field ts w → (g : ℕ) × (field ≤ g) × (rank_of w ≡ number_of w ∷ g ∷ 0 ∷ 0 ∷ 0 ∷ [])
ranked-from field [] w f = absurd f
ranked-from field (t ∷ ts) w (inl is) = (field, omega arith, ranked t field w is)
ranked-from field (t ∷ ts) w (inr f) = let r = ranked-from (field + 1) ts w f in (r.0, omega (arith, r.1), r.2)

-- the lower number comes no later, and where the numbers are one, the earlier field
earlier : (u v : Refusal) (f g : ℕ) → rank_of u ≡ number_of u ∷ f ∷ 0 ∷ 0 ∷ 0 ∷ [] → rank_of v ≡ number_of v ∷ g ∷ 0 ∷ 0 ∷ 0 ∷ [] → f < g → number_of u ≤ number_of v → NoLater (rank_of u) (rank_of v)
earlier u v f g ru rv before no_more =
    subst (λ x. NoLater x (rank_of v)) (sym ru) (subst (NoLater (number_of u ∷ f ∷ 0 ∷ 0 ∷ 0 ∷ [])) (sym rv) (by_number (number_of u) (number_of v) no_more))
  where
    by_number : (n m : ℕ) → n ≤ m → NoLater (n ∷ f ∷ 0 ∷ 0 ∷ 0 ∷ []) (m ∷ g ∷ 0 ∷ 0 ∷ 0 ∷ [])
    by_number n m le = ⊎_elim (λ (less : n < m). inl less) (λ (more : m ≤ n). inr (omega arith, inl before)) (cases_lt n m)

number_le : (v x : Refusal) → NoLater (rank_of v) (rank_of x) → number_of v ≤ number_of x
number_le v x (inl less) = omega arith
number_le v x (inr same) = omega (arith, same.0)

-- the lower of what one field and those after it have
pub lower-told : (t : Option Trouble) (field : ℕ) (ts : List (Option Trouble)) (r : Option Refusal) → Told (FieldFault (field + 1) ts) r → Told (FieldFault field (t ∷ ts)) (lower_of (refusal_of t field) r)
lower-told t field ts r told = by_first (refusal_of t field) refl r told
  where
    same_first : (u x : Refusal) → refusal_of t field ≡ Some u → refusal_of t field ≡ Some x → x ≡ u
    same_first u x a b = same_Some x u (sym b ∙ a)

    alone : (u : Refusal) → refusal_of t field ≡ Some u → ((x : Refusal) → FieldFault (field + 1) ts x → NoLater (rank_of u) (rank_of x)) → Lowest (FieldFault field (t ∷ ts)) u
    alone u is later = record { holds = inl is; first = by_fault }
      where
        by_fault : (x : Refusal) → FieldFault field (t ∷ ts) x → NoLater (rank_of u) (rank_of x)
        by_fault x (inl same) = subst (λ y. NoLater (rank_of u) (rank_of y)) (sym (same_first u x is same)) (no_later_itself (rank_of u))
        by_fault x (inr f) = later x f

    by_first : (a : Option Refusal) → refusal_of t field ≡ a → (r : Option Refusal) → Told (FieldFault (field + 1) ts) r → Told (FieldFault field (t ∷ ts)) (lower_of a r)
    by_first None is None told = λ w f. ⊎_elim (λ (same : refusal_of t field ≡ Some w). none-some _ (sym is ∙ same)) (λ (g : FieldFault (field + 1) ts w). told w g) f
    by_first None is (Some v) low = record { holds = inr low.holds; first = by_fault }
      where
        by_fault : (x : Refusal) → FieldFault field (t ∷ ts) x → NoLater (rank_of v) (rank_of x)
        by_fault x (inl same) = absurd (none-some _ (sym is ∙ same))
        by_fault x (inr f) = low.first x f
    by_first (Some u) is None told = alone u is (λ x f. absurd (told x f))
    by_first (Some u) is (Some v) low =
        cond_both (leb (number_of u) (number_of v)) (Some u) (Some v) (Told (FieldFault field (t ∷ ts)))
        (λ le. alone u is (λ x f. let g = ranked-from (field + 1) ts x f in earlier u x field g.0 (ranked t field u is) g.2 (omega (arith, g.1)) (omega (arith, leb-true (number_of u) (number_of v) le, number_le v x (low.first x f)))))
        (λ gt. record { holds = inr low.holds; first = by_fault (leb-false (number_of u) (number_of v) gt) })
      where
        by_fault : number_of v < number_of u → (x : Refusal) → FieldFault field (t ∷ ts) x → NoLater (rank_of v) (rank_of x)
        by_fault less x (inl same) = subst (λ y. NoLater (rank_of v) (rank_of y)) (sym (same_first u x is same)) (inl less)
        by_fault less x (inr f) = low.first x f

-- nothing comes after the last field
last-told : (t : Option Trouble) (field : ℕ) → Told (FieldFault field (t ∷ [])) (refusal_of t field)
last-told t field = subst (Told (FieldFault field (t ∷ []))) (unrivalled (refusal_of t field)) (lower-told t field [] None (λ w f. f))
  where
    unrivalled : (r : Option Refusal) → lower_of r None ≡ r
    unrivalled None = refl
    unrivalled (Some w) = refl

-- the refusal that is told of two fields, and of three
pub two-told : (second third : Option Trouble) (w : Refusal) → Some w ≡ lower_of (refusal_of second 2) (refusal_of third 3) → Lowest (FieldFault 2 (second ∷ third ∷ [])) w
two-told second third w is = subst (Told (FieldFault 2 (second ∷ third ∷ []))) (sym is) (lower-told second 2 (third ∷ []) _ (last-told third 3))

pub three-told : (second third fourth : Option Trouble) (w : Refusal) → Some w ≡ lower_of (refusal_of second 2) (lower_of (refusal_of third 3) (refusal_of fourth 4)) → Lowest (FieldFault 2 (second ∷ third ∷ fourth ∷ [])) w
three-told second third fourth w is =
    subst (Told (FieldFault 2 (second ∷ third ∷ fourth ∷ []))) (sym is) (lower-told second 2 (third ∷ fourth ∷ []) _ (lower-told third 3 (fourth ∷ []) _ (last-told fourth 4)))

-- what is wrong with a field is told before a table that is full
pub before-full : (field : ℕ) (ts : List (Option Trouble)) (w : Refusal) → FieldFault field ts w → number_of w < 9
before-full field [] w f = absurd f
before-full field (t ∷ ts) w (inr f) = before-full (field + 1) ts w f
before-full field (t ∷ ts) w (inl is) = by_trouble t is
  where
    by_trouble : (t : Option Trouble) → refusal_of t field ≡ Some w → number_of w < 9
    by_trouble None is = absurd (none-some _ is)
    by_trouble (Some NotItsForm) is = subst (λ u. number_of u < 9) (same_Some _ _ is) (omega arith)
    by_trouble (Some NotListed) is = subst (λ u. number_of u < 9) (same_Some _ _ is) (omega arith)
    by_trouble (Some Twice) is = subst (λ u. number_of u < 9) (same_Some _ _ is) (omega arith)
    by_trouble (Some AlwaysTrue) is = subst (λ u. number_of u < 9) (same_Some _ _ is) (omega arith)

module _ (ts : List (Option Trouble)) (full : Bool) where
  module _ (fine : (w : Refusal) → FieldFault 2 ts w → ⊥) where
    pub table-full : full ≡ true → Lowest (LineFault ts full) TableFull
    table-full over = record { holds = inr (refl, over); first = by_fault }
      where
        by_fault : (v : Refusal) → LineFault ts full v → NoLater (rank_of TableFull) (rank_of v)
        by_fault v (inl f) = absurd (fine v f)
        by_fault v (inr f) = subst (λ u. NoLater (rank_of TableFull) (rank_of u)) (sym f.0) (no_later_itself (rank_of TableFull))

    pub nothing-wrong : full ≡ false → Faultless ts full
    nothing-wrong free w (inl f) = fine w f
    nothing-wrong free w (inr f) = both_ways full free f.1

-- a line of one field that is in no trouble, by whether a table is full
module _ (t : Option Trouble) (fine : t ≡ None) (full : Bool) where
  untroubled : (w : Refusal) → FieldFault 2 (t ∷ []) w → ⊥
  untroubled w (inl is) = none-some _ (ap (λ o. refusal_of o 2) (sym fine) ∙ is)
  untroubled w (inr f) = f

  pub one-full : full ≡ true → Lowest (LineFault (t ∷ []) full) TableFull
  one-full = table-full (t ∷ []) full untroubled

  pub one-faultless : full ≡ false → Faultless (t ∷ []) full
  one-faultless = nothing-wrong (t ∷ []) full untroubled
