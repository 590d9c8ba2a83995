-- The lowest of some refusals, as it is computed. Assumes nothing.
use Rattle.std.proofs.Common.{◌≡◌, ℕ, ◌<◌, ◌≤◌, Bool, true, false, ◌&&◌, eqb, ltb, ◌⊎◌, List, [], ◌∷◌, ◌++◌, Some, None, filter, Option, sym, refl, ap, ◌∙◌, inl, inr, arith}
use Rattle.std.specs.List.{flat_map}
use Rattle.std.proofs.lemmas.Bool.{and_cases, and_parts, cases_Bool, cases_lt, cond_both, eqb-false, eqb-true, false≢true, ltb-false, ltb-true, or_cases, or_parts, true≢false}
use Rattle.sheets.specs.declared.refusals.Refusal.{Refusal}
use Rattle.sheets.specs.Faults.{NoLater}
use Rattle.sheets.specs.Refusals.{rank_of}
use Rattle.walkthroughs.specs.Judging.{lower, lowest_of, no_later}
use Rattle.walkthroughs.specs.Lists.{times}
use Rattle.walkthroughs.proofs.Counts.{one-cases}

no_later_itself : (xs : List ℕ) → NoLater xs xs
no_later_itself [] = tt
no_later_itself (x ∷ xs) = inr (refl, no_later_itself xs)

no_later_onward : (xs ys zs : List ℕ) → NoLater xs ys → NoLater ys zs → NoLater xs zs
no_later_onward [] ys zs p q = tt
no_later_onward (x ∷ xs) [] zs p q = absurd p
no_later_onward (x ∷ xs) (y ∷ ys) [] p q = absurd q
no_later_onward (x ∷ xs) (y ∷ ys) (z ∷ zs) (inl p) (inl q) = inl (omega arith)
no_later_onward (x ∷ xs) (y ∷ ys) (z ∷ zs) (inl p) (inr q) = inl (omega (arith, q.0))
no_later_onward (x ∷ xs) (y ∷ ys) (z ∷ zs) (inr p) (inl q) = inl (omega (arith, p.0))
no_later_onward (x ∷ xs) (y ∷ ys) (z ∷ zs) (inr p) (inr q) = inr (p.0 ∙ q.0, no_later_onward xs ys zs p.1 q.1)

no_later_true : (xs ys : List ℕ) → no_later xs ys ≡ true → NoLater xs ys
no_later_true [] ys h = tt
no_later_true (x ∷ xs) [] h = absurd (false≢true h)
no_later_true (x ∷ xs) (y ∷ ys) h = elim (or_cases (ltb x y) (eqb x y && no_later xs ys) h) [ inl less ↦ inl (ltb-true x y less) | inr k ↦ inr (eqb-true x y (and_parts (eqb x y) (no_later xs ys) k).0, no_later_true xs ys (and_parts (eqb x y) (no_later xs ys) k).1) ]

no_later_false : (xs ys : List ℕ) → no_later xs ys ≡ false → NoLater ys xs
no_later_false [] ys h = absurd (true≢false h)
no_later_false (x ∷ xs) [] h = tt
no_later_false (x ∷ xs) (y ∷ ys) h = other (or_parts (ltb x y) (eqb x y && no_later xs ys) h) (no_later_false xs ys)
  where
    other : (ltb x y ≡ false) × ((eqb x y && no_later xs ys) ≡ false) → (no_later xs ys ≡ false → NoLater ys xs) → NoLater (y ∷ ys) (x ∷ xs)
    other k next = elim (cases_Bool (eqb x y)) [ inr apart ↦ inl (less (ltb-false x y k.0) (eqb-false x y apart)) | inl same ↦ inr (sym (eqb-true x y same), next (rest same)) ]
      where
        less : y ≤ x → (x ≡ y → ⊥) → y < x
        less = λ p q. elim (cases_lt y x) [ inl l ↦ l | inr l ↦ absurd (q (omega arith)) ]

        rest : eqb x y ≡ true → no_later xs ys ≡ false
        rest same = elim (and_cases (eqb x y) (no_later xs ys) k.1) [ inl no' ↦ absurd (true≢false (sym same ∙ no')) | inr r ↦ r ]

-- a refusal is in a list
abbrev pub Member : Refusal → List Refusal → Type 0
Member w [] = ⊥
Member w (v ∷ ws) = (w ≡ v) ⊎ Member w ws

pub member_left : (w : Refusal) (a b : List Refusal) → Member w a → Member w (a ++ b)
member_left w [] b h = absurd h
member_left w (v ∷ a) b (inl here) = inl here
member_left w (v ∷ a) b (inr later) = inr (member_left w a b later)

pub member_right : (w : Refusal) (a b : List Refusal) → Member w b → Member w (a ++ b)
member_right w [] b h = h
member_right w (v ∷ a) b h = inr (member_right w a b h)

pub member_joined : (w : Refusal) (f : ℕ → List Refusal) (i : ℕ) (ns : List ℕ) → 0 < times i ns → Member w (f i) → Member w (flat_map f ns)
member_joined w f i [] there h = absurd (omega arith)
member_joined w f i (n ∷ ns) there h = elim (one-cases i n) [ inl k ↦ member_left w (f n) (flat_map f ns) (rw k.0 at h) | inr k ↦ member_right w (f n) (flat_map f ns) (member_joined w f i ns (omega arith) h) ]

pub kept-member : (test : Refusal → Bool) (w : Refusal) (ws : List Refusal) → Member w ws → test w ≡ true → Member w (filter test ws)
kept-member test w [] h passes = h
kept-member test w (v ∷ ws) (inl here) passes = rw (sym (ap test here) ∙ passes) (inl here)
kept-member test w (v ∷ ws) (inr later) passes = elim (cases_Bool (test v)) [ inl k ↦ rw k (inr (kept-member test w ws later passes)) | inr k ↦ rw k (kept-member test w ws later passes) ]

pub member_kept : (test : Refusal → Bool) (w : Refusal) (ws : List Refusal) → Member w (filter test ws) → test w ≡ true
member_kept test w [] h = absurd h
member_kept test w (v ∷ ws) h = elim (cases_Bool (test v)) [ inl k ↦ first k (rw k at h) (member_kept test w ws) | inr k ↦ member_kept test w ws (rw k at h) ]
  where
    first : test v ≡ true → Member w (v ∷ filter test ws) → (Member w (filter test ws) → test w ≡ true) → test w ≡ true
    first k (inl here) next = ap test here ∙ k
    first k (inr later) next = next later

-- what is told of a list: none, for it is empty, or the lowest in it
abbrev pub LowestIn : List Refusal → Option Refusal → Type 0
LowestIn ws None = (v : Refusal) → Member v ws → ⊥
LowestIn ws (Some w) = Member w ws × ((v : Refusal) → Member v ws → NoLater (rank_of w) (rank_of v))

lower_in : (w : Refusal) (ws : List Refusal) (o : Option Refusal) → LowestIn ws o → LowestIn (w ∷ ws) (lower w o)
lower_in w ws None h = (inl refl, only)
  where
    only : (v : Refusal) → Member v (w ∷ ws) → NoLater (rank_of w) (rank_of v)
    only v (inl here) = rw here (no_later_itself (rank_of w))
    only v (inr later) = absurd (h v later)
lower_in w ws (Some u) h = cond_both (no_later (rank_of w) (rank_of u)) w u (λ v. LowestIn (w ∷ ws) (Some v)) (λ k. (inl refl, new (no_later_true (rank_of w) (rank_of u) k))) (λ k. (inr h.0, old (no_later_false (rank_of w) (rank_of u) k)))
  where
    new : NoLater (rank_of w) (rank_of u) → (v : Refusal) → Member v (w ∷ ws) → NoLater (rank_of w) (rank_of v)
    new first v (inl here) = rw here (no_later_itself (rank_of w))
    new first v (inr later) = no_later_onward (rank_of w) (rank_of u) (rank_of v) first (h.1 v later)

    old : NoLater (rank_of u) (rank_of w) → (v : Refusal) → Member v (w ∷ ws) → NoLater (rank_of u) (rank_of v)
    old first v (inl here) = rw here first
    old first v (inr later) = h.1 v later

pub lowest_in : (ws : List Refusal) → LowestIn ws (lowest_of ws)
lowest_in [] = λ v m. m
lowest_in (w ∷ ws) = lower_in w ws (lowest_of ws) (lowest_in ws)
