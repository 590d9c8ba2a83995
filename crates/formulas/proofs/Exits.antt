-- What the reader of formulas answers, from what the one that it called answered. Assumes nothing.
use Rattle.std.proofs.Common.{◌≡◌, ℕ, ◌-◌, ◌<◌, List, ◌∷◌, Ok, Err, Result, Bor}
use Rattle.formulas.specs.declared.tree.Formula.{Formula as Tree}
use Rattle.formulas.specs.declared.tree.Unread.{Unread}
use Rattle.formulas.specs.declared.tree.Unread.TheVariants.{NotItsForm, NoMemory}
use Rattle.formulas.specs.Reading.{Formed, FormedOn}
use Rattle.formulas.specs.Shapes.{texted}
use Rattle.formulas.proofs.Steps.{Lacks, deeper, only_fact, not_turned, not_bracketed}

-- where a text begins with no `!` and no opening bracket, the fact is the answer at any depth
pub fact_answers : (d : ℕ) (text : List ℕ) (r : Result (Tree (Bor (List ℕ)) × Bor (List ℕ)) Unread) → Lacks 33 text → Lacks 40 text → Formed 0 text r → Formed d text r
fact_answers d text (Ok x) no-turn no-bracket h = deeper d text no-turn no-bracket (texted x.0) x.1.now h
fact_answers d text (Err NotItsForm) no-turn no-bracket h = only_fact d text no-turn no-bracket h
fact_answers d text (Err NoMemory) no-turn no-bracket h = tt

pub refused_turn : (d : ℕ) (text after : List ℕ) (e : Unread) → 0 < d → text ≡ 33 ∷ after → Formed (d - 1) after (Err e) → Formed d text (Err e)
refused_turn d text after NotItsForm deep is h = not_turned d text after deep is h
refused_turn d text after NoMemory deep is h = tt

pub refused_bracket : (d : ℕ) (text after : List ℕ) (e : Unread) → 0 < d → text ≡ 40 ∷ after → Lacks 41 after → FormedOn (d - 1) after (Err e) → Formed d text (Err e)
refused_bracket d text after NotItsForm deep is other h = not_bracketed d text after deep is other h
refused_bracket d text after NoMemory deep is other h = tt
