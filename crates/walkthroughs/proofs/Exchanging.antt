-- Calls that are sent one after the other, each answer put beside its call. Assumes nothing.
use Rattle.std.proofs.Common.{◌≡◌, ℕ, ◌+◌, ◌<◌, ◌≤◌, List, [], ◌∷◌, ◌++◌, map, length, get_or, set, take, Some, refl, sym, ap, ◌∙◌, subst}
use Rattle.std.proofs.Math.ListN.{get_or-map}
use Rattle.std.proofs.Math.Seq.{map-set_same}
use Rattle.std.proofs.lemmas.List.{map-append, take_all, take_more, take_more_set}
use Rattle.walkthroughs.specs.declared.exchange.Answer.{Answer as Kept}
use Rattle.walkthroughs.specs.declared.exchange.Exchange.{Exchange}
use Rattle.walkthroughs.specs.Depots.{Carrying, Depot}
use Rattle.walkthroughs.specs.Exchanges.{Lawful, answer_of, call_of}
use Rattle.walkthroughs.specs.Firing.{start_of}
use Rattle.walkthroughs.specs.Runs.{Answered, Held, Ran, begun}
use Rattle.walkthroughs.proofs.Running.{ran_more, runs-keep_the_law}

-- the first i calls are sent
pub record Sent (d : Depot) (before now : List Exchange) (i : ℕ) (h : Held) : Type 0 where
  pub calls : map (λ x. x.call) now ≡ map (λ x. x.call) before
  pub answers : List Kept
  pub beside : map (λ x. x.answer) (take i now) ≡ map Some answers
  pub ran : Ran d (begun d) (map (λ x. call_of x.call) (take i before)) (map answer_of answers) h

module _ (d : Depot) (before : List Exchange) where
  pub sent_none : (h : Held) → h.stands ≡ start_of d → Sent d before before 0 h
  sent_none h start = record { calls = refl; answers = []; beside = refl; ran = start }

  -- one call more, whose answer is put beside it
  module _ (now : List Exchange) (i : ℕ) (h : Held) (sent : Sent d before now i h) (z : Exchange) (a : Kept) (next : Held) where
    abbrev answered_at : Exchange
    answered_at = record { call = (get_or now i z).call; answer = Some a }

    same_call : (get_or now i z).call ≡ (get_or before i z).call
    same_call = sym (get_or-map (λ x. x.call) now i z) ∙ ap (λ l. get_or l i z.call) sent.calls ∙ get_or-map (λ x. x.call) before i z

    pub sent_more : i < length now → i < length before → Answered d h (call_of (get_or now i z).call) (answer_of a) next → Sent d before (set now i answered_at) (i + 1) next
    sent_more within known answered = record {
      calls = map-set_same (λ x. x.call) now i answered_at z refl ∙ sent.calls;
      answers = sent.answers ++ a ∷ [];
      beside = ap (map (λ x. x.answer)) (take_more_set now i answered_at within) ∙ map-append (λ x. x.answer) (take i now) (answered_at ∷ []) ∙ ap (λ l. l ++ Some a ∷ []) sent.beside ∙ sym (map-append Some sent.answers (a ∷ []));
      ran = rw (take_more before i z known, map-append (λ x. call_of x.call) (take i before) (get_or before i z ∷ []), map-append answer_of sent.answers (a ∷ [])) (ran_more d (begun d) h next (map (λ x. call_of x.call) (take i before)) (map answer_of sent.answers) (call_of (get_or before i z).call) (answer_of a) sent.ran (subst (λ c. Answered d h (call_of c) (answer_of a) next) same_call answered));
    }

  -- all are sent
  pub sent_all : Carrying d → (now : List Exchange) (i : ℕ) (left : Held) → length now ≤ i → length before ≤ i → Sent d before now i left → Lawful d before now left
  sent_all law now i left end last sent = record {
    calls = sent.calls;
    answers = sent.answers;
    beside = ap (map (λ x. x.answer)) (sym (take_all i now end)) ∙ sent.beside;
    ran = ran;
    law = runs-keep_the_law d law (map (λ x. call_of x.call) before) (map answer_of sent.answers) left ran;
  }
    where
      ran : Ran d (begun d) (map (λ x. call_of x.call) before) (map answer_of sent.answers) left
      ran = rw (take_all i before last) at sent.ran
