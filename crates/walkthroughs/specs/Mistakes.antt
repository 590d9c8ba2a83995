-- Two mistakes that one could make, each with an example that shows it wrong. Assumes nothing.
use Rattle.std.specs.Prelude.{◌≡◌, ℕ, ◌^◌, Bool, true, List, [], ◌∷◌, Some, None, nat_eq}
use Rattle.sheets.specs.declared.refusals.Refusal.TheVariants.{Contradictory, Disturbed}
use Rattle.walkthroughs.specs.Examples.{depot_q, depot_s}
use Rattle.walkthroughs.specs.Firing.{any, clash, start_of}
use Rattle.walkthroughs.specs.Judging.{judge, judge_by, up_to}

-- A mistake: settings and strikes compared by name, so that a setting meets a strike only if they are one fact.
abbrev by_name : List ℕ → List ℕ → Bool
by_name settings strikes = any (λ g. any (λ f. nat_eq g f) strikes) settings

-- It would tell call with jam as disturbed, where it is contradictory.
abbrev pub NamesMislead : Type 0
NamesMislead = (judge_by by_name (λ set. true) depot_s (start_of depot_s) (2 ∷ 4 ∷ []) ≡ Some (Disturbed 2 1 0)) × (judge depot_s (start_of depot_s) (2 ∷ 4 ∷ []) ≡ Some (Contradictory 1 1 2 1))

-- A mistake: disturbance tried on pairs of moves, so that only sets of one place are tried.
abbrev one_place : ℕ → Bool
one_place set = any (λ k. nat_eq set (2 ^ k)) (up_to 7)

-- It would let m1, m2 and m3 through, where m1 and m2 together disturb m3.
abbrev pub PairsMiss : Type 0
PairsMiss = (judge_by (clash depot_q) one_place depot_q (start_of depot_q) (1 ∷ 2 ∷ 3 ∷ []) ≡ None) × (judge depot_q (start_of depot_q) (1 ∷ 2 ∷ 3 ∷ []) ≡ Some (Disturbed 3 3 1))
