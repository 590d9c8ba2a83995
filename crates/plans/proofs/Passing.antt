-- Steps that pass one after the other, and the first that does not. Assumes nothing.
use Rattle.std.proofs.Common.{◌≡◌, ℕ, ◌+◌, ◌-◌, ◌<◌, ◌≤◌, List, [], ◌∷◌, ◌++◌, map, length, get_or, take, Some, refl, sym, ap, ◌∙◌, subst, add-one, arith}
use Rattle.std.specs.List.{AllByRecursion, slice_get}
use Rattle.std.specs.Option.{option_map}
use Rattle.std.proofs.lemmas.List.{map-append, take_all, take_more}
use Rattle.std.proofs.lemmas.Option.{get_or_from_slice_get, slice_get-map, slice_get_read, slice_get_within}
use Rattle.sheets.specs.declared.refusals.Refusal.{Refusal}
use Rattle.walkthroughs.specs.Depots.{Carrying, Depot, State}
use Rattle.walkthroughs.specs.Firing.{after, start_of}
use Rattle.walkthroughs.specs.Runs.{AllAccepted, Answer, Held, IsAccepted, Ran, begun}
use Rattle.walkthroughs.specs.Runs.Answer.{accepted, refused, told}
use Rattle.walkthroughs.specs.Runs.Call.{step}
use Rattle.walkthroughs.specs.Steps.{Accepted, StepRefused}
use Rattle.walkthroughs.specs.Unpickings.{Passes}
use Rattle.walkthroughs.proofs.Running.{passes-sent, ran_more, runs-keep_the_law}
use Rattle.plans.specs.declared.plan.Step.{Step}
use Rattle.plans.specs.Judging.{Passed, StoppedAt}
use Rattle.plans.specs.Plans.{moves_of}

-- the moves of the step at a place
pub moves_at : (steps : List Step) (i : ℕ) (x : Step) → i < length steps → x ≡ get_or steps i x → slice_get (map moves_of steps) i ≡ Some (moves_of x)
moves_at steps i x within is = slice_get-map moves_of steps i ∙ ap (option_map moves_of) (slice_get_read steps (length steps) i x refl within is)

-- the steps up to a place, and that at it
take_at : (steps : List (List ℕ)) (i : ℕ) (moves : List ℕ) → slice_get steps i ≡ Some moves → take (i + 1) steps ≡ take i steps ++ moves ∷ []
take_at steps i moves here = take_more steps i moves (slice_get_within steps i moves here) ∙ ap (λ m. take i steps ++ m ∷ []) (get_or_from_slice_get steps i moves moves here)

module _ (d : Depot) where
  -- one step more passes
  passes_more : (s mid left : State) (steps : List (List ℕ)) (moves : List ℕ) → Passes d s steps mid → Accepted d mid moves → left ≡ after d mid moves → Passes d s (steps ++ moves ∷ []) left
  passes_more s mid left [] moves p can is = (subst (λ t. Accepted d t moves) p can, is ∙ ap (λ t. after d t moves) p)
  passes_more s mid left (first ∷ steps) moves p can is = (p.0, passes_more (after d s first) mid left steps moves p.1 can is)

  -- the steps up to a place pass, and so does that at it
  pub passes_next : (s mid left : State) (steps : List (List ℕ)) (i : ℕ) (moves : List ℕ) → slice_get steps i ≡ Some moves → Passes d s (take i steps) mid → Accepted d mid moves → left ≡ after d mid moves → Passes d s (take (i + 1) steps) left
  passes_next s mid left steps i moves here p can is = rw (take_at steps i moves here) (passes_more s mid left (take i steps) moves p can is)

  -- steps that are all accepted pass
  pub sent-passes : (h left : Held) (steps : List (List ℕ)) → AllAccepted d h steps left → Passes d h.stands steps left.stands
  sent-passes h left steps sent = each h steps sent.answers sent.ran sent.each
    where
      each : (h : Held) (steps : List (List ℕ)) (answers : List Answer) → Ran d h (map step steps) answers left → AllByRecursion IsAccepted answers → Passes d h.stands steps left.stands
      each h [] [] ran all = ran
      each h [] (a ∷ answers) ran all = absurd ran
      each h (moves ∷ steps) [] ran all = absurd ran
      each h (moves ∷ steps) (accepted n ∷ answers) (next, this, rest) all = (this.0, subst (λ s. Passes d s steps left.stands) this.2 (each next steps answers rest all.1))
      each h (moves ∷ steps) (told b ∷ answers) ran all = absurd all.0
      each h (moves ∷ steps) (refused w ∷ answers) ran all = absurd all.0

  module _ (law : Carrying d) (steps : List (List ℕ)) (left : Held) where
    -- the steps of a plan pass from the start
    pub passed : Passes d (start_of d) steps left.stands → Passed d steps left
    passed p = let sent = passes-sent d (begun d) left steps p in record { sent = sent; law = runs-keep_the_law d law (map step steps) sent.answers left sent.ran }

    -- so do as many as there are
    pub all_passed : (i : ℕ) → length steps ≤ i → Passes d (start_of d) (take i steps) left.stands → Passed d steps left
    all_passed i last p = passed (subst (λ steps. Passes d (start_of d) steps left.stands) (take_all i steps last) p)

    -- the step after the first i, which pass, is refused
    module _ (i : ℕ) (moves : List ℕ) (w : Refusal) (here : slice_get steps i ≡ Some moves) (p : Passes d (start_of d) (take i steps) left.stands) (no : StepRefused d left.stands moves w) where
      taken : take (i + 1) steps ≡ take (i + 1 - 1) steps ++ moves ∷ []
      taken =
          let before : i + 1 - 1 ≡ i = omega arith in
          take_at steps i moves here ∙ ap (λ k. take k steps ++ moves ∷ []) (sym before)

      sent : AllAccepted d (begun d) (take (i + 1 - 1) steps) left
      sent = let before : i + 1 - 1 ≡ i = omega arith in passes-sent d (begun d) left (take (i + 1 - 1) steps) (subst (λ k. Passes d (start_of d) (take k steps) left.stands) (sym before) p)

      ran : (sent : AllAccepted d (begun d) (take (i + 1 - 1) steps) left) → Ran d (begun d) (map step (take (i + 1) steps)) (sent.answers ++ refused w ∷ []) left
      ran sent = rw (taken, map-append step (take (i + 1 - 1) steps) (moves ∷ [])) (ran_more d (begun d) left left (map step (take (i + 1 - 1) steps)) sent.answers (step moves) (refused w) sent.ran (no, refl))

      pub stopped : StoppedAt d steps (i + 1) w
      stopped = at sent
        where
          at : AllAccepted d (begun d) (take (i + 1 - 1) steps) left → StoppedAt d steps (i + 1) w
          at sent = record { moves = moves; here = rw add-one here; left = left; sent = sent; refused_there = no; law = runs-keep_the_law d law (map step (take (i + 1) steps)) (sent.answers ++ refused w ∷ []) left (ran sent) }
