use Rattle.std.proofs.Common.{◌≡◌, ℕ, Decides, ap}
use Rattle.std.proofs.lemmas.Bool.Decides.{Decides-at, Decides-eqb}
use Rattle.facts.specs.declared.plain.PlainFact.{PlainFact}
use Rattle.facts.specs.Plain.{plain_same}
use Rattle.facts.proofs.meaning.plain_carries.Goals as goal

fact_of : ℕ → PlainFact
fact_of m = record { matter = m }

-- facts of one matter are one
of_one_matter : (a b : PlainFact) → a.matter ≡ b.matter → a ≡ b
unfolding fact_of
of_one_matter a b same = ap fact_of same

same-decides : (a b : PlainFact) → Decides (plain_same a b) (a ≡ b)
same-decides a b = let told = Decides-eqb a.matter b.matter in (λ e. of_one_matter a b (told.0 e), λ e. told.1 (ap (λ f. f.matter) e))

pub returns : goal.returns
returns c = Decides-at _ _ c.carries.ensures (same-decides c.args.a.now c.args.b.now)
