-- What a field with a formula comes to: the formula that it spells is the only one. Assumes nothing.
use Rattle.std.proofs.Common.{◌≡◌, ℕ, true, false, List, Some, Ok, Err, Result, sym, refl, ap, ◌∙◌, subst}
use Rattle.std.proofs.lemmas.Option.{none-some}
use Rattle.std.specs.Result.{result_err}
use Rattle.std.proofs.lemmas.Bool.{both_ways}
use Rattle.facts.specs.declared.names.NoFact.{NoFact}
use Rattle.facts.specs.declared.names.NoFact.TheVariants as none
use Rattle.formulas.specs.declared.resolve.Unresolved.TheVariants as unresolved
use Rattle.formulas.specs.Formulas.{Formula}
use Rattle.formulas.specs.Reading.{Spells}
use Rattle.formulas.specs.Resolving.{each_passes, is_listed, Resolves}
use Rattle.facts.specs.Numbering.{has_form}
use Rattle.formulas.proofs.Numbering.{formed}
use Rattle.formulas.proofs.Unique.{spelling_fixes}
use Rattle.depots.specs.declared.formula_field.SizedFormula.{SizedFormula}
use Rattle.depots.specs.declared.troubles.Trouble.{Trouble}
use Rattle.depots.specs.declared.troubles.Trouble.TheVariants.{NotItsForm, NotListed, Twice, AlwaysTrue}
use Rattle.depots.specs.Fields.{as_trouble}
use Rattle.depots.specs.FormulaFields.{FormulaRead}
use Rattle.depots.specs.Wrong.{FormulaWrong}

-- a text spells one formula
pub spells_one : (d e : ℕ) (text : List ℕ) (p q : Formula (List ℕ)) → Spells d text p → Spells e text q → p ≡ q
spells_one d e text p q a b = spelling_fixes p q a.facts b.facts (a.text_is ∙ sym b.text_is)

-- what is so of the formula that a text spells is so of every one
of-every : (d : ℕ) (text : List ℕ) (p : Formula (List ℕ)) (P : Formula (List ℕ) → Type 0) → Spells d text p → P p → (q : Formula (List ℕ)) → Spells d text q → P q
of-every d text p P a is q b = subst P (spells_one d d text p q a b) is

module _ (number : List ℕ → Result ℕ NoFact) where
  -- what is wrong with a fact of a formula is wrong with the field that the formula fills
  pub fact_wrong : (text : List ℕ) (p : Formula (List ℕ)) → Spells 8 text p → (why : NoFact) → Resolves number p (Err (unresolved.NoFact why)) → FormulaWrong number text (as_trouble why)
  fact_wrong text p spells none.NotItsForm formless = of-every 8 text p (λ q. each_passes (λ f. has_form (number f)) q ≡ false) spells formless
  fact_wrong text p spells none.NotListed unlisted = (p, spells, unlisted.0, unlisted.1)

  -- of what is wrong with a formula only one is
  one-trouble : (text : List ℕ) (a b : Trouble) → FormulaWrong number text a → FormulaWrong number text b → a ≡ b
  one-trouble text NotItsForm NotItsForm f g = refl
  one-trouble text NotItsForm NotListed f g = absurd (both_ways _ (f g.0 g.1) g.2)
  one-trouble text NotItsForm Twice f g = absurd g
  one-trouble text NotItsForm AlwaysTrue f g = absurd g
  one-trouble text NotListed NotItsForm f g = absurd (both_ways _ (g f.0 f.1) f.2)
  one-trouble text NotListed NotListed f g = refl
  one-trouble text NotListed Twice f g = absurd g
  one-trouble text NotListed AlwaysTrue f g = absurd g
  one-trouble text Twice b f g = absurd f
  one-trouble text AlwaysTrue b f g = absurd f

  -- a formula of listed facts has nothing wrong
  none-wrong : (text : List ℕ) (p : Formula (List ℕ)) → Spells 8 text p → each_passes (λ f. is_listed (number f)) p ≡ true → (a : Trouble) → FormulaWrong number text a → ⊥
  none-wrong text p spells listed NotItsForm f = both_ways _ (f p spells) (formed number p listed)
  none-wrong text p spells listed NotListed f = both_ways _ f.3 (of-every 8 text p (λ q. each_passes (λ f. is_listed (number f)) q ≡ true) spells listed f.0 f.1)
  none-wrong text p spells listed Twice f = f
  none-wrong text p spells listed AlwaysTrue f = f

  -- what was found of a field is what is wrong with it
  pub formula_found : (text : List ℕ) (x : Result SizedFormula Trouble) → FormulaRead number text x → (a : Trouble) → (FormulaWrong number text a → result_err x ≡ Some a) × (result_err x ≡ Some a → FormulaWrong number text a)
  formula_found text (Ok f) read a = (λ wrong. absurd (none-wrong text read.0 read.1 read.2.0 a wrong), λ is. absurd (none-some _ is))
  formula_found text (Err b) read a = (λ wrong. ap Some (one-trouble text b a read wrong), λ is. subst (FormulaWrong number text) (inner is) read)
    where
      inner : Some b ≡ Some a → b ≡ a
      inner e = cc
