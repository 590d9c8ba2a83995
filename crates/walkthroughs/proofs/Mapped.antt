-- The first item at which a closure gives something, or says yes, by its place. Assumes nothing.
use Rattle.std.proofs.Common.{◌≡◌, ℕ, ◌+◌, ◌<◌, ◌≤◌, Bool, true, false, List, length, get_or, Some, None, Option, sym, ap, ◌∙◌, subst, arith}
use Rattle.std.specs.Bool.{IsTrue}
use Rattle.std.specs.Borrow.{Bor}
use Rattle.std.specs.Fn.{Called}
use Rattle.std.specs.Iterator.Adapters.{enumerate_steps, IterYieldsInOrder}
use Rattle.std.specs.Iterator.Runs.{Run, SomeRun, EachRunFrom, ProjectsRun, AllItemsGive, CallKeepsClosure, IsFirstToGive}
use Rattle.std.specs.Option.{IfSome, IsSomeAnd, MatchOption, option_map}
use Rattle.std.specs.Slice.Iter.{iter_rest, iter_steps}
use Rattle.std.specs.declared.ops.Range.{Range}
use Rattle.std.proofs.iter.Yields.{nat_range_steps}
use Rattle.std.proofs.iter.runs.Sources.{range_runs}
use Rattle.std.proofs.lemmas.Iterator.Adapters.{option_map_id}
use denote.Param.Members.{Mut}

-- the first of n places that gives y, or that none gives anything
abbrev pub FirstGiven : {B : Type 0} → ℕ → (ℕ → Option B → Type 0) → Option B → Type 0
FirstGiven n Gives r = MatchOption r ((k : ℕ) → k < n → Gives k None) (λ y. (k : ℕ) × (k < n) × Gives k (Some y) × ((m : ℕ) → m < k → Gives m None))

-- the item of a place, and what a call gives there
module _ {A F R : Type 0} (g : Mut F (A × Unit {0}) R) (f : F) (Gives : R → Type 0) where
  abbrev pub GivesThere : Option A → Type 0
  GivesThere item = IsSomeAnd item (λ x. (r : R) → Called g f (x, tt) r f → Gives r)

  if_called : (r : R) (item : Option A) → GivesThere item → IfSome item (λ x. Called g f (x, tt) r f) → Gives r
  if_called r None gives called = absurd gives
  if_called r (Some x) gives called = gives r called

  called_there : (r : R) (item : Option A) → GivesThere item → IsSomeAnd item (λ x. Called g f (x, tt) r f) → Gives r
  called_there r None gives called = absurd gives
  called_there r (Some x) gives called = gives r called

-- a closure that stays as it is, over a run whose places are n places
module _ {S A F R : Type 0} {steps : S → Option A → S → Type 0} (g : Mut F (A × Unit {0}) R) (f : F) (keeps : CallKeepsClosure g f) (n : ℕ) (Gives : ℕ → R → Type 0) where
  abbrev pub Reads : Run steps → Type 0
  Reads p = (p.len ≤ n) × (p.whole ≡ true → p.len ≡ n) × ((k : ℕ) → k < p.len → GivesThere g f (Gives k) (p.at k))

  pub all_give : (p : Run steps) (miss : R) → Reads p → IsTrue p.whole → AllItemsGive p g f miss → (k : ℕ) → k < n → Gives k miss
  all_give p miss reads whole all k below = if_called g f (Gives k) miss (p.at k) (reads.2 k (omega (arith, reads.1 whole))) (all keeps k)

  pub first_gives : (p : Run steps) (hit miss : R) (i : ℕ) → Reads p → i < p.len → IsFirstToGive p g f hit miss i → (i < n) × Gives i hit × ((m : ℕ) → m < i → Gives m miss)
  first_gives p hit miss i reads short first = (omega (arith, reads.0), called_there g f (Gives i) hit (p.at i) (reads.2 i short) (first keeps).0, λ m below. called_there g f (Gives m) miss (p.at m) (reads.2 m (omega arith)) ((first keeps).1 m below))

-- what `find_map` says of a run of calls
module _ {S A F B : Type 0} {steps : S → Option A → S → Type 0} (g : Mut F (A × Unit {0}) (Option B)) (f : F) (keeps : CallKeepsClosure g f) where
  abbrev pub Told : Run steps → Option B → Type 0
  Told p r = MatchOption r (IsTrue p.whole × AllItemsGive p g f None) (λ y. (i : ℕ) × (i < p.len) × (p.len ≡ i + 1) × IsFirstToGive p g f (Some y) None i)

  pub of_run : (n : ℕ) (Gives : ℕ → Option B → Type 0) (p : Run steps) → Reads g f keeps n Gives p → (r : Option B) → Told p r → FirstGiven n Gives r
  of_run n Gives p reads None (whole, all) = all_give g f keeps n Gives p None reads whole all
  of_run n Gives p reads (Some y) (i, short, long, first) = let found = first_gives g f keeps n Gives p (Some y) None i reads short first in (i, found.0, found.1, found.2)

-- over the numbers below n
module _ {F B : Type 0} (g : Mut F (ℕ × Unit {0}) (Option B)) (f : F) (keeps : CallKeepsClosure g f) (Gives : ℕ → Option B → Type 0) (gives : (k : ℕ) (o : Option B) → Called g f (k, tt) o f → Gives k o) where
  range_reads : (p : Run nat_range_steps) → p.from.start ≡ 0 → Reads g f keeps p.from.end Gives p
  range_reads p zero = (omega (arith, (range_runs p p.seen).0), λ whole. omega (arith, (range_runs p p.seen).1 whole), λ k below. subst (GivesThere g f (Gives k)) (sym (item k below)) (gives k))
    where
      item : (k : ℕ) → k < p.len → p.at k ≡ Some k
      item k below = sym (option_map_id (p.at k)) ∙ (range_runs p p.seen).3 k below ∙ ap Some (omega arith)

  pub first_in_range : (s : Range ℕ) (r : Option B) → s.start ≡ 0 → SomeRun nat_range_steps s (λ p. Told g f keeps p r) → FirstGiven s.end Gives r
  first_in_range s r zero (p, is, told) = subst (λ (t : Range ℕ). FirstGiven t.end Gives r) is (of_run g f keeps p.from.end Gives p (range_reads p (ap (λ (t : Range ℕ). t.start) is ∙ zero)) r told)

-- over the entries of a slice with their places
module _ {T F R : Type 0} (d : T) (g : Mut F ((ℕ × Bor T) × Unit {0}) R) (f : F) (keeps : CallKeepsClosure g f) (Gives : ℕ → T → R → Type 0) (gives : (k : ℕ) (x : Bor T) (r : R) → Called g f ((k, x), tt) r f → Gives k x.now r) where
  -- an item that is the entry of its place
  placed : (k : ℕ) (x : T) (item : Option (ℕ × Bor T)) → IfSome item (λ i. i.0 ≡ k) → option_map (λ y. y.now) (option_map (λ i. i.1) item) ≡ Some x → GivesThere g f (Gives k x) item
  placed k x None at is = absurd (let z : ◌≡◌ {A = ℕ} 0 1 = cc in omega arith)
  placed k x (Some (i, y)) at is = λ r called. let same : y.now ≡ x = cc in subst (λ j. Gives j x r) at (subst (λ z. Gives i z r) same (gives i y r called))

  pub slice_reads : (xs : List T) (t : _) (p : Run (enumerate_steps iter_steps)) → iter_rest t ≡ xs → IterYieldsInOrder T → ((k : ℕ) → IfSome (p.at k) (λ x. x.0 ≡ k)) × SomeRun iter_steps t (λ q. ProjectsRun p q (λ x. x.1) × (q.whole ≡ p.whole)) → Reads g f keeps (length xs) (λ k. Gives k (get_or xs k d)) p
  slice_reads xs t p all slices (counted, source) =
      let (q, from, both) = source in
      let (projects, whole) = both in
      let rest = ap iter_rest from ∙ all in
      let lists = slices q q.seen in (
        omega (arith, lists.0, ap length rest, projects.0),
        λ w. omega (arith, lists.1 (whole ∙ w), ap length rest, projects.0),
        λ k below. placed k (get_or xs k d) (p.at k) (counted k) (ap (option_map (λ y. y.now)) (sym (projects.2 k)) ∙ lists.2 k d (omega (arith, projects.0)) ∙ ap (λ l. Some (get_or l k d)) rest),
      )

module _ {T F B : Type 0} (d : T) (g : Mut F ((ℕ × Bor T) × Unit {0}) (Option B)) (f : F) (keeps : CallKeepsClosure g f) (Gives : ℕ → T → Option B → Type 0) (gives : (k : ℕ) (x : Bor T) (r : Option B) → Called g f ((k, x), tt) r f → Gives k x.now r) where
  pub first_in_slice : (xs : List T) (t : _) (s : _) (r : Option B) → iter_rest t ≡ xs → IterYieldsInOrder T → EachRunFrom (enumerate_steps iter_steps) s (λ p. ((k : ℕ) → IfSome (p.at k) (λ x. x.0 ≡ k)) × SomeRun iter_steps t (λ q. ProjectsRun p q (λ x. x.1) × (q.whole ≡ p.whole))) → SomeRun (enumerate_steps iter_steps) s (λ p. Told g f keeps p r) → FirstGiven (length xs) (λ k. Gives k (get_or xs k d)) r
  first_in_slice xs t s r all slices enumerated (p, is, told) = of_run g f keeps (length xs) (λ k. Gives k (get_or xs k d)) p (slice_reads d g f keeps Gives gives xs t p all slices (enumerated p p.seen is)) r told

-- the first place whose entry passes a test
module _ {T F : Type 0} (d : T) (g : Mut F ((ℕ × Bor T) × Unit {0}) Bool) (f : F) (keeps : CallKeepsClosure g f) (Passes : ℕ → T → Bool → Type 0) (passes : (k : ℕ) (x : Bor T) (r : Bool) → Called g f ((k, x), tt) r f → Passes k x.now r) where
  pub position_in_slice : (xs : List T) (t : _) (s : _) (r : Option ℕ) → iter_rest t ≡ xs → IterYieldsInOrder T → EachRunFrom (enumerate_steps iter_steps) s (λ p. ((k : ℕ) → IfSome (p.at k) (λ x. x.0 ≡ k)) × SomeRun iter_steps t (λ q. ProjectsRun p q (λ x. x.1) × (q.whole ≡ p.whole))) → SomeRun (enumerate_steps iter_steps) s (λ p. MatchOption r (IsTrue p.whole × AllItemsGive p g f false) (λ i. (p.len ≡ i + 1) × IsFirstToGive p g f true false i)) → MatchOption r ((k : ℕ) → k < length xs → Passes k (get_or xs k d) false) (λ i. (i < length xs) × Passes i (get_or xs i d) true × ((k : ℕ) → k < i → Passes k (get_or xs k d) false))
  position_in_slice xs t s None all slices enumerated (p, is, (whole, none)) = all_give g f keeps (length xs) (λ k. Passes k (get_or xs k d)) p false (slice_reads d g f keeps Passes passes xs t p all slices (enumerated p p.seen is)) whole none
  position_in_slice xs t s (Some i) all slices enumerated (p, is, (long, first)) = first_gives g f keeps (length xs) (λ k. Passes k (get_or xs k d)) p true false i (slice_reads d g f keeps Passes passes xs t p all slices (enumerated p p.seen is)) (omega arith) first
