-- A line that is text, by its words. Assumes nothing.
use Rattle.std.proofs.Common.{◌≡◌, ℕ, List, ◌∷◌, Bor, map, None, refl, sym, ap, ◌∙◌}
use Rattle.std.specs.Str.{IsUtf8, is_utf8}
use Rattle.std.proofs.lemmas.Bool.{cond_both}
use Rattle.std.proofs.lemmas.Str.{IsUtf8-from_is_utf8, is_utf8-from_IsUtf8}
use Rattle.sheets.specs.Pieces.{pieces}
use Rattle.replay.specs.CallLines.{call_of_line, call_of_words}

-- A line that is no text writes no call.
pub no_text : (line : List ℕ) → (IsUtf8 line → ⊥) → None ≡ call_of_line line
no_text line fails = cond_both (is_utf8 line) (call_of_words (pieces 32 line)) None (λ o. None ≡ o) (λ yes. absurd (fails (IsUtf8-from_is_utf8 line yes))) (λ no. refl)

-- The call that the words of a line write is that of the line.
pub worded : (line text : List ℕ) (ws : List (Bor (List ℕ))) (w : Bor (List ℕ)) (more : List (Bor (List ℕ))) → text ≡ line → IsUtf8 line → map (λ x. x.now) ws ≡ pieces 32 text → ws ≡ w ∷ more → call_of_words (w.now ∷ map (λ x. x.now) more) ≡ call_of_line line
worded line text ws w more is utf8 cut first = rw (is_utf8-from_IsUtf8 line utf8) (ap call_of_words (sym (ap (map (λ (x : Bor (List ℕ)). x.now)) first) ∙ (cut ∙ ap (pieces 32) is)))
