-- Which of the things that are wrong with a line of a plan sheet is told. Assumes nothing.
use Rattle.std.proofs.Common.{◌≡◌, ℕ, ◌<◌, ◌≤◌, true, false, List, [], ◌∷◌, length, Some, None, Err, Option, Result, ok_or, sym, refl, ap, ◌∙◌, inl, inr, ⊎_elim, arith}
use Rattle.std.specs.Result.{result_err}
use Rattle.std.proofs.lemmas.Bool.{both_ways, cases_lt}
use Rattle.std.proofs.lemmas.Option.{none-some, same_Some}
use Rattle.sheets.specs.declared.refusals.Refusal.{Refusal}
use Rattle.sheets.specs.declared.refusals.Refusal.TheVariants.{BadLine, FieldCount, NotItsForm, NotListed, Twice, TableFull}
use Rattle.sheets.specs.Faults.{Lowest, NoLater}
use Rattle.sheets.specs.Layout.{fields, legible}
use Rattle.sheets.specs.Lines.{Line}
use Rattle.sheets.specs.Refusals.{rank_of}
use Rattle.sheets.proofs.Judged.{no_later_itself}
use Rattle.plans.specs.Fields.{First, NoName, Repeated, Unlisted}
use Rattle.plans.specs.Wrong.{LineWrong, most_moves, most_steps}
use Rattle.plans.specs.Wrong.LineWrong.{illegible, too_many, no_name, unlisted, repeated, full}

-- of one reason, the earlier field
by_field : (reason n k : ℕ) → n ≤ k → NoLater (reason ∷ n ∷ 0 ∷ 0 ∷ 0 ∷ []) (reason ∷ k ∷ 0 ∷ 0 ∷ 0 ∷ [])
by_field reason n k no_more = inr (refl, ⊎_elim (λ (less : n < k). inl less) (λ (same : k ≤ n). inr (omega arith, no_later_itself (0 ∷ 0 ∷ 0 ∷ []))) (cases_lt n k))

-- a name that was refused is that of no listed move
pub unlisted_told : (o : Option ℕ) (n : ℕ) (r : Result ℕ Refusal) (w : Refusal) → r ≡ Err w → r ≡ ok_or o (NotListed n) → (o ≡ None) × (w ≡ NotListed n)
unlisted_told None n r w is told = (refl, same_Some w (NotListed n) (ap result_err (sym is ∙ told)))
unlisted_told (Some m) n r w is told = absurd (none-some w (ap result_err (sym told ∙ is)))

module _ (names : List (List ℕ)) (above : ℕ) (l : Line) where
  -- a case for each reason
  each : (P : Refusal → Type 0) → (legible l ≡ false → P BadLine) → (most_moves < length (fields l) → P FieldCount) → ((n : ℕ) → NoName (fields l) n → P (NotItsForm n)) → ((n : ℕ) → Unlisted names (fields l) n → P (NotListed n)) → ((n : ℕ) → Repeated (fields l) n → P (Twice n)) → (most_steps ≤ above → P TableFull) → (w : Refusal) → LineWrong names above l w → P w
  each P a b c d e f _ (illegible is) = a is
  each P a b c d e f _ (too_many is) = b is
  each P a b c d e f _ (no_name n is) = c n is
  each P a b c d e f _ (unlisted n is) = d n is
  each P a b c d e f _ (repeated n is) = e n is
  each P a b c d e f _ (full is) = f is

  -- a refusal comes no later than another
  abbrev Before : Refusal → Refusal → Type 0
  Before w v = NoLater (rank_of w) (rank_of v)

  pub illegible_told : legible l ≡ false → Lowest (LineWrong names above l) BadLine
  illegible_told is = record {
    holds = illegible is;
    first = each (Before BadLine) (λ _. no_later_itself (rank_of BadLine)) (λ _. inl (omega arith)) (λ n _. inl (omega arith)) (λ n _. inl (omega arith)) (λ n _. inl (omega arith)) (λ _. inl (omega arith));
  }

  module _ (read : legible l ≡ true) where
    no_bad_line : {P : Type 0} → legible l ≡ false → P
    no_bad_line is = absurd (both_ways (legible l) is read)

    pub many_told : most_moves < length (fields l) → Lowest (LineWrong names above l) FieldCount
    many_told is = record {
      holds = too_many is;
      first = each (Before FieldCount) no_bad_line (λ _. no_later_itself (rank_of FieldCount)) (λ n _. inl (omega arith)) (λ n _. inl (omega arith)) (λ n _. inl (omega arith)) (λ _. inl (omega arith));
    }

    module _ (few : length (fields l) ≤ most_moves) where
      not_many : {P : Type 0} → most_moves < length (fields l) → P
      not_many more = absurd (omega arith)

      pub no_name_told : (n : ℕ) → First (NoName (fields l)) (Some n) → Lowest (LineWrong names above l) (NotItsForm n)
      no_name_told n is = record {
        holds = no_name n is.0;
        first = each (Before (NotItsForm n)) no_bad_line not_many (λ k f. by_field 5 n k (is.1 k f)) (λ k _. inl (omega arith)) (λ k _. inl (omega arith)) (λ _. inl (omega arith));
      }

      module _ (named : First (NoName (fields l)) None) where
        pub not_listed_told : (n : ℕ) → First (Unlisted names (fields l)) (Some n) → Lowest (LineWrong names above l) (NotListed n)
        not_listed_told n is = record {
          holds = unlisted n is.0;
          first = each (Before (NotListed n)) no_bad_line not_many (λ k f. absurd (named k f)) (λ k f. by_field 6 n k (is.1 k f)) (λ k _. inl (omega arith)) (λ _. inl (omega arith));
        }

        module _ (listed : First (Unlisted names (fields l)) None) where
          pub repeated_told : (n : ℕ) → First (Repeated (fields l)) (Some n) → Lowest (LineWrong names above l) (Twice n)
          repeated_told n is = record {
            holds = repeated n is.0;
            first = each (Before (Twice n)) no_bad_line not_many (λ k f. absurd (named k f)) (λ k f. absurd (listed k f)) (λ k f. by_field 7 n k (is.1 k f)) (λ _. inl (omega arith));
          }

          module _ (once : First (Repeated (fields l)) None) where
            pub full_told : most_steps ≤ above → Lowest (LineWrong names above l) TableFull
            full_told is = record {
              holds = full is;
              first = each (Before TableFull) no_bad_line not_many (λ k f. absurd (named k f)) (λ k f. absurd (listed k f)) (λ k f. absurd (once k f)) (λ _. no_later_itself (rank_of TableFull));
            }

            pub nothing_told : above < most_steps → (w : Refusal) → LineWrong names above l w → ⊥
            nothing_told room = each (λ _. ⊥) no_bad_line not_many named listed once (λ is. omega arith)
