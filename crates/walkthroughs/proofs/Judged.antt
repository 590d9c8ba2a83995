-- The computed refusal is the refusal of the rules. Assumes nothing.
use Rattle.std.proofs.Common.{◌≡◌, ℕ, zero, suc, ◌^◌, ◌<◌, ◌≤◌, Bool, true, false, not, ◌&&◌, eqb, ltb, leb, List, [], ◌∷◌, ◌++◌, length, Some, None, Decides, filter, Option, sym, refl, ap, ◌∙◌, inl, inr, arith}
use mathlib.Core.Bool.{beq}
use Rattle.std.specs.List.{flat_map, list_any}
use Rattle.std.proofs.lemmas.List.{get_or_past, length-append}
use Rattle.std.proofs.lemmas.Bool.{cases_lt, false≢true, le-leb, leb-true, not_from_false, not-true, true≢false}
use Rattle.std.proofs.lemmas.Bool.Decides.{Decides-and, Decides-eqb, Decides-like, Decides-ltb, Decides-not, Decides-or}
use Rattle.sheets.specs.declared.refusals.Refusal.{Refusal}
use Rattle.sheets.specs.declared.refusals.Refusal.TheVariants.{OverLimit, BadLine, BadLetter, FieldCount, NotItsForm, NotListed, Twice, AlwaysTrue, TableFull, NoGoal, StepSize, UnknownMove, RepeatedMove, NeedFalse, Contradictory, Disturbed, GoalFalse, UnknownNumber, BufferShort, NoMemory}
use Rattle.depots.specs.Tables.{Effect}
use Rattle.walkthroughs.specs.Depots.{Depot, State, Carrying, Listed, effect_of, move_of, reads}
use Rattle.walkthroughs.specs.Disturbance.{move_at}
use Rattle.walkthroughs.specs.Firing.{after, clash, fires, settings_at, strikes_at}
use Rattle.walkthroughs.specs.Judging.{effects_in, has_fault, is_listed, judge, possible, up_to}
use Rattle.walkthroughs.specs.Laws.{Judged, JudgedByTheRules}
use Rattle.walkthroughs.specs.Lists.{times}
use Rattle.walkthroughs.specs.Sets.{chosen, in_set}
use Rattle.walkthroughs.specs.Steps.{StepFault}
use Rattle.walkthroughs.proofs.Counts.{any_at, any-find, one-cases, one-is}
use Rattle.walkthroughs.proofs.Faulty.{accepted_unless, by_fault}
use Rattle.walkthroughs.proofs.Firings.{nothing}
use Rattle.walkthroughs.proofs.Lowests.{LowestIn, Member, kept-member, lowest_in, member_joined, member_kept, member_left, member_right}
use Rattle.walkthroughs.proofs.Places.{any_swap, times-at}
use Rattle.walkthroughs.proofs.Walking.{never_both, reads-past}

pub decides_listed : (n k : ℕ) → Decides (is_listed n k) (Listed n k)
decides_listed n k = Decides-and (ltb 0 n) (leb n k) (Decides-ltb 0 n) (leb-true n k, le-leb n k)

decides_is : (b : Bool) → Decides b (b ≡ true)
decides_is b = (λ h. h, λ h. h)

decides_isnt : (b : Bool) → Decides (not b) (b ≡ false)
decides_isnt b = (not-true b, not_from_false b)

decides_otherwise : (a b : Bool) → Decides (not (beq a b)) (a ≡ not b)
decides_otherwise true true = (λ h. absurd (false≢true h), λ h. absurd (true≢false h))
decides_otherwise true false = (λ h. refl, λ h. refl)
decides_otherwise false true = (λ h. refl, λ h. refl)
decides_otherwise false false = (λ h. absurd (false≢true h), λ h. absurd (false≢true h))

decides_never : Decides false ⊥
decides_never = (λ h. absurd (false≢true h), λ f. absurd f)

in_up_to : (q n : ℕ) → q ≤ n → 0 < times q (up_to n)
in_up_to q zero h = omega (arith, one-is q 0 (omega arith))
in_up_to q (suc n) h = elim (cases_lt n q) [ inl last ↦ omega (arith, one-is q (suc n) (omega arith)) | inr less ↦ omega (arith, in_up_to q n less) ]

-- the effects of a move of a step are among those of the step
length-joined : (f : ℕ → List Effect) (m : ℕ) (ms : List ℕ) → 0 < times m ms → length (f m) ≤ length (flat_map f ms)
length-joined f m [] there = absurd (omega arith)
length-joined f m (y ∷ ms) there = elim (one-cases m y) [ inl k ↦ here k.0 | inr k ↦ rw (length-append (f y) (flat_map f ms)) (omega (arith, length-joined f m ms (omega arith))) ]
  where
    here : m ≡ y → length (f m) ≤ length (f y ++ flat_map f ms)
    here e = rw (length-append (f y) (flat_map f ms), e) (omega arith)

-- an effect that has something to fire is one of its move
effect_bound : (d : Depot) (s : State) (list : Effect → List ℕ) (p : ℕ → Bool) (m e : ℕ) → list nothing ≡ [] → list_any p (fires d s list (effect_of d m e)) ≡ true → e ≤ length (move_of d m).effects
effect_bound d s list p m zero empty h = omega arith
effect_bound d s list p m (suc e) empty h = elim (cases_lt e (length (move_of d m).effects)) [ inl in' ↦ in' | inr past ↦ absurd (false≢true (sym (ap (list_any p) empty) ∙ rw (get_or_past (move_of d m).effects e nothing past) at h)) ]

-- a part that reads otherwise is one of its move
part-bound : (d : Depot) (s t : State) (m e : ℕ) → reads d t m e ≡ not (reads d s m e) → e ≤ length (move_of d m).effects
part-bound d s t m e other = elim (cases_lt (length (move_of d m).effects) e) [ inr in' ↦ in' | inl past ↦ absurd (never_both (reads d t m e) (reads d s m e) (reads-past d t m e past ∙ sym (reads-past d s m e past)) other) ]

module _ (d : Depot) (s : State) (moves : List ℕ) where
  abbrev tests : Refusal → Bool
  tests = has_fault (clash d) (λ set. true) d s moves

  decides_repeated : (p : ℕ) → Decides (list_any (λ q. is_listed q (length moves) && (ltb q p && eqb (move_at moves q) (move_at moves p))) (up_to (length moves))) ((q : ℕ) × Listed q (length moves) × (q < p) × (move_at moves q ≡ move_at moves p))
  decides_repeated p = (λ h. found (any-find test (up_to (length moves)) h), λ f. any_at test f.0 (up_to (length moves)) ((each f.0).1 (f.1, (f.2, f.3))) (in_up_to f.0 (length moves) f.1.1))
    where
      test : ℕ → Bool
      test q = is_listed q (length moves) && (ltb q p && eqb (move_at moves q) (move_at moves p))

      each : (q : ℕ) → Decides (is_listed q (length moves) && (ltb q p && eqb (move_at moves q) (move_at moves p))) (Listed q (length moves) × ((q < p) × (move_at moves q ≡ move_at moves p)))
      each q = Decides-and (is_listed q (length moves)) (ltb q p && eqb (move_at moves q) (move_at moves p)) (decides_listed q (length moves)) (Decides-and (ltb q p) (eqb (move_at moves q) (move_at moves p)) (Decides-ltb q p) (Decides-eqb (move_at moves q) (move_at moves p)))

      found : ((q : ℕ) × (test q ≡ true) × (0 < times q (up_to (length moves)))) → (q : ℕ) × Listed q (length moves) × (q < p) × (move_at moves q ≡ move_at moves p)
      found (q, passes, there) = let r = (each q).0 passes in (q, r.0, r.1.0, r.1.1)

  faults_decided : (w : Refusal) → Decides (tests w) (StepFault d s moves w)
  faults_decided StepSize = Decides-or (eqb (length moves) 0) (ltb 8 (length moves)) (Decides-eqb (length moves) 0) (Decides-ltb 8 (length moves))
  faults_decided (UnknownMove p) = Decides-and (is_listed p (length moves)) (not (is_listed (move_at moves p) (length d.moves))) (decides_listed p (length moves)) (Decides-not (is_listed (move_at moves p) (length d.moves)) (decides_listed (move_at moves p) (length d.moves)))
  faults_decided (RepeatedMove p) = Decides-and (is_listed p (length moves)) (list_any (λ q. is_listed q (length moves) && (ltb q p && eqb (move_at moves q) (move_at moves p))) (up_to (length moves))) (decides_listed p (length moves)) (decides_repeated p)
  faults_decided (NeedFalse p) = Decides-and (is_listed p (length moves)) (not (reads d s (move_at moves p) 0)) (decides_listed p (length moves)) (decides_isnt (reads d s (move_at moves p) 0))
  faults_decided (Contradictory p e q h) = Decides-like (tests (Contradictory p e q h)) (λ f. (f.0, f.1.0, f.1.1)) (λ f. (f.0, (f.1, f.2))) (Decides-and (is_listed p (length moves)) (is_listed q (length moves) && meets) (decides_listed p (length moves)) (Decides-and (is_listed q (length moves)) meets (decides_listed q (length moves)) (decides_is meets)))
    where
      meets : Bool
      meets = clash d (settings_at d s (move_at moves p) e) (strikes_at d s (move_at moves q) h)
  faults_decided (Disturbed n p e) = Decides-like (tests (Disturbed n p e)) (λ f. record { known = f.0; placed = f.1.0; outside = f.1.1.0; otherwise = f.1.1.1 }) (λ b. (b.known, (b.placed, (b.outside, b.otherwise)))) (Decides-and (ltb n (2 ^ length moves)) (is_listed p (length moves) && (not (in_set n p) && not (beq then now))) (Decides-ltb n (2 ^ length moves)) (Decides-and (is_listed p (length moves)) (not (in_set n p) && not (beq then now)) (decides_listed p (length moves)) (Decides-and (not (in_set n p)) (not (beq then now)) (decides_isnt (in_set n p)) (decides_otherwise then now))))
    where
      then : Bool
      then = reads d (after d s (chosen n moves)) (move_at moves p) e

      now : Bool
      now = reads d s (move_at moves p) e
  faults_decided OverLimit = decides_never
  faults_decided BadLine = decides_never
  faults_decided BadLetter = decides_never
  faults_decided FieldCount = decides_never
  faults_decided (NotItsForm field) = decides_never
  faults_decided (NotListed field) = decides_never
  faults_decided (Twice field) = decides_never
  faults_decided (AlwaysTrue field) = decides_never
  faults_decided TableFull = decides_never
  faults_decided NoGoal = decides_never
  faults_decided GoalFalse = decides_never
  faults_decided UnknownNumber = decides_never
  faults_decided BufferShort = decides_never
  faults_decided NoMemory = decides_never

  -- what holds of a step is among what can
  abbrev listed : List Refusal
  listed = possible (length moves) (effects_in d moves)

  in_row : (w : Refusal) (f : ℕ → List Refusal) (i n : ℕ) → i ≤ n → Member w (f i) → Member w (flat_map f (up_to n))
  in_row w f i n h m = member_joined w f i (up_to n) (in_up_to i n h) m

  in_step : (p e : ℕ) → Listed p (length moves) → e ≤ length (move_of d (move_at moves p)).effects → e ≤ effects_in d moves
  in_step p e l h = omega (arith, length-joined (λ m. (move_of d m).effects) (move_at moves p) moves (times-at p moves l))

  abbrev at_place : ℕ → List Refusal
  at_place p = UnknownMove p ∷ RepeatedMove p ∷ NeedFalse p ∷ flat_map (λ e. flat_map (λ q. flat_map (λ h. Contradictory p e q h ∷ []) (up_to (effects_in d moves))) (up_to (length moves))) (up_to (effects_in d moves))

  abbrev of_set : ℕ → List Refusal
  of_set n = flat_map (λ p. flat_map (λ e. Disturbed n p e ∷ []) (up_to (effects_in d moves))) (up_to (length moves))

  at-place : (w : Refusal) (p : ℕ) → Listed p (length moves) → Member w (at_place p) → Member w listed
  at-place w p l m = inr (member_left w (flat_map at_place (up_to (length moves))) (flat_map of_set (up_to (2 ^ length moves))) (in_row w at_place p (length moves) l.1 m))

  of-set : (w : Refusal) (n : ℕ) → n < 2 ^ length moves → Member w (of_set n) → Member w listed
  of-set w n l m = inr (member_right w (flat_map at_place (up_to (length moves))) (flat_map of_set (up_to (2 ^ length moves))) (in_row w of_set n (2 ^ length moves) (omega arith) m))

  faults_listed : (w : Refusal) → StepFault d s moves w → Member w listed
  faults_listed = by_fault d s moves (λ w. Member w listed) (λ f. inl refl) (λ p f. at-place (UnknownMove p) p f.0 (inl refl)) (λ p f. at-place (RepeatedMove p) p f.0 (inr (inl refl))) (λ p f. at-place (NeedFalse p) p f.0 (inr (inr (inl refl)))) clashing disturbed
    where
      clashing : (p e q h : ℕ) → StepFault d s moves (Contradictory p e q h) → Member (Contradictory p e q h) listed
      clashing p e q h f =
          let w = Contradictory p e q h in
          let sets : e ≤ effects_in d moves = in_step p e f.0 (effect_bound d s (λ x. x.settings) (λ g. list_any (λ y. d.carries g y) (strikes_at d s (move_at moves q) h)) (move_at moves p) e refl f.2) in
          let strikes : h ≤ effects_in d moves = in_step q h f.1 (effect_bound d s (λ x. x.strikes) (λ y. list_any (λ g. d.carries g y) (settings_at d s (move_at moves p) e)) (move_at moves q) h refl (any_swap (λ g y. d.carries g y) (settings_at d s (move_at moves p) e) (strikes_at d s (move_at moves q) h) f.2)) in
          at-place w p f.0 (inr (inr (inr (in_row w (λ x. flat_map (λ y. flat_map (λ z. Contradictory p x y z ∷ []) (up_to (effects_in d moves))) (up_to (length moves))) e (effects_in d moves) sets (in_row w (λ x. flat_map (λ y. Contradictory p e x y ∷ []) (up_to (effects_in d moves))) q (length moves) f.1.1 (in_row w (λ x. Contradictory p e q x ∷ []) h (effects_in d moves) strikes (inl refl)))))))

      disturbed : (n p e : ℕ) → StepFault d s moves (Disturbed n p e) → Member (Disturbed n p e) listed
      disturbed n p e b =
          let w = Disturbed n p e in
          let part : e ≤ effects_in d moves = in_step p e b.placed (part-bound d s (after d s (chosen n moves)) (move_at moves p) e b.otherwise) in
          of-set w n b.known (in_row w (λ x. flat_map (λ y. Disturbed n x y ∷ []) (up_to (effects_in d moves))) p (length moves) b.placed.1 (in_row w (λ x. Disturbed n p x ∷ []) e (effects_in d moves) part (inl refl)))

  found : (w : Refusal) → StepFault d s moves w → Member w (filter tests listed)
  found w f = kept-member tests w listed (faults_listed w f) ((faults_decided w).1 f)

  judged-by : Carrying d → (o : Option Refusal) → LowestIn (filter tests listed) o → Judged d s moves o
  judged-by law None h = accepted_unless d law s moves (λ w f. h w (found w f))
  judged-by law (Some w) h = record { holds = (faults_decided w).0 (member_kept tests w listed h.0); first = λ v f. h.1 v (found v f) }

pub judged : JudgedByTheRules
judged d law s moves = judged-by d s moves law (judge d s moves) (lowest_in (filter (tests d s moves) (listed d s moves)))
