-- A text that has the form of a name, and whether it is listed. Assumes nothing.
use Rattle.std.proofs.Common.{◌≡◌, ℕ, Bool, true, false, cond, List, Some, None, sym, refl}
use Rattle.std.proofs.lemmas.Option.{none-some}
use Rattle.sheets.specs.Names.{is_name}
use Rattle.depots.specs.declared.troubles.Trouble.{Trouble}
use Rattle.depots.specs.declared.troubles.Trouble.TheVariants.{NotItsForm, Twice}
use Rattle.depots.specs.Fields.{unlisted_name}

pub named : (is_listed : Bool) (text : List ℕ) → cond (is_name text) None (Some NotItsForm) ≡ None → cond is_listed (Some Twice) None ≡ unlisted_name is_listed text
named is_listed text formed = by_form (is_name text) formed
  where
    by_form : (b : Bool) → cond b None (Some NotItsForm) ≡ None → cond is_listed (Some Twice) None ≡ cond b (cond is_listed (Some Twice) None) (Some NotItsForm)
    by_form true formed = refl
    by_form false formed = absurd (none-some _ (sym formed))
