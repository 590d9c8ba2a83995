use Rattle.std.proofs.Common.{◌≡◌, Ok, sym, inl, inr, ap, ◌∙◌, subst}
use Rattle.std.proofs.lemmas.Bool.{false≢true}
use Rattle.std.specs.Result.{result_err}
use Rattle.sheets.specs.declared.letters.Letter.TheVariants as letter
use Rattle.sheets.specs.Faults.{Lowest}
use Rattle.depots.specs.Settings.{Comes, list_reading}
use Rattle.depots.specs.FormulaFields.{FormulaRead}
use Rattle.depots.specs.Kinds.{meaning_of}
use Rattle.depots.specs.Tables.{tables_of}
use Rattle.depots.specs.Troubles.{lower_of, refusal_of}
use Rattle.depots.specs.Wrong.{LineWrong, number_among, shown_fields}
use Rattle.depots.proofs.Entered.{adds-formula, effect_fine, effect_full, effect_told}
use Rattle.depots.proofs.Fieldwise.{three-told}
use Rattle.depots.proofs.Returned.{both-read, handed_on, lower-at, lower-read, read-at, refused-at}
use Rattle.depots.proofs.depot.Depot.read_effect.Given as given
use Rattle.depots.proofs.depot.Depot.read_effect.Goals as goal
use Rattle.depots.proofs.depot.Depot.read_effect.Goals.{In_ok-condition}

-- what was read of the three fields
module _ (g : given.Over) (c : In_ok-condition g) where
  lists : (c.at_field-2.result ≡ Ok c.in_ok-condition.settings) × (c.at_field-3.result ≡ Ok c.in_ok-condition.strikes)
  lists = both-read c.at_field-2.result c.at_field-3.result c.both.result _ c.both.ensures c.in_ok-condition.ensures.1

  condition : FormulaRead (number_among (meaning_of g.K.Kind g.K.TextKind.reading_under) (tables_of c.args.self.now)) c.args.fields.second.now (Ok c.in_ok-condition.condition)
  condition = subst (FormulaRead (number_among (meaning_of g.K.Kind g.K.TextKind.reading_under) (tables_of c.args.self.now)) c.args.fields.second.now) (read-at 2 c.in_ok-formula.field-0 c.at_field.result _ c.at_field.ensures c.in_ok-condition.ensures.0) c.in_ok-formula.ensures

  settings : Comes (list_reading (number_among (meaning_of g.K.Kind g.K.TextKind.reading_under) (tables_of c.args.self.now)) c.args.fields.third.now) (Ok c.in_ok-condition.settings)
  settings = subst (Comes (list_reading (number_among (meaning_of g.K.Kind g.K.TextKind.reading_under) (tables_of c.args.self.now)) c.args.fields.third.now)) (read-at 3 c.listed_facts.result c.at_field-2.result _ c.at_field-2.ensures lists.0) c.listed_facts.ensures

  strikes : Comes (list_reading (number_among (meaning_of g.K.Kind g.K.TextKind.reading_under) (tables_of c.args.self.now)) c.args.fields.fourth.now) (Ok c.in_ok-condition.strikes)
  strikes = subst (Comes (list_reading (number_among (meaning_of g.K.Kind g.K.TextKind.reading_under) (tables_of c.args.self.now)) c.args.fields.fourth.now)) (read-at 4 c.listed_facts-2.result c.at_field-3.result _ c.at_field-3.ensures lists.1) c.listed_facts-2.ensures

pub returns-in_err-condition : goal.returns-in_err-condition
returns-in_err-condition g c =
    let w = c.in_err-condition.field-0.0 in
    let later = lower-read c.at_field-2.result c.at_field-3.result c.both.result c.both.ensures ∙ lower-at 3 4 c.listed_facts.result c.listed_facts-2.result c.at_field-2.result c.at_field-3.result c.at_field-2.ensures c.at_field-3.ensures in
    let is = c.in_err-condition.ensures ∙ ap (λ o. lower_of o (result_err c.both.result)) (refused-at 2 c.in_ok-formula.field-0 c.at_field.result c.at_field.ensures) ∙ ap (lower_of (refusal_of (result_err c.in_ok-formula.field-0) 2)) later in
    rw (handed_on c.from_residual-in_err-condition.result w c.from_residual-in_err-condition.ensures.1)
    (inr (effect_told (meaning_of g.K.Kind g.K.TextKind.reading_under) (tables_of c.args.self.now) (shown_fields c.args.fields) c.in_ok-formula.field-0 c.listed_facts.result c.listed_facts-2.result c.in_ok-formula.ensures c.listed_facts.ensures c.listed_facts-2.ensures w (three-told (result_err c.in_ok-formula.field-0) (result_err c.listed_facts.result) (result_err c.listed_facts-2.result) w is)))

pub returns-in_err-refuse_if_full : goal.returns-in_err-refuse_if_full
returns-in_err-refuse_if_full g c =
    let at = (goal.at.returns-in_err-refuse_if_full g c).In_ok-condition in
    let full = effect_full (meaning_of g.K.Kind g.K.TextKind.reading_under) (tables_of c.args.self.now) (shown_fields c.args.fields) c.in_ok-condition.condition c.in_ok-condition.settings c.in_ok-condition.strikes (condition g at) (settings g at) (strikes g at) (inl (c.effects_full.ensures.0 c.in_err-refuse_if_full.ensures.1)) in
    rw (handed_on c.from_residual-in_err-refuse_if_full.result c.in_err-refuse_if_full.field-0.0 c.from_residual-in_err-refuse_if_full.ensures.1)
    (inr (subst (Lowest (LineWrong (meaning_of g.K.Kind g.K.TextKind.reading_under) (tables_of c.args.self.now) letter.Effect (shown_fields c.args.fields))) (sym c.in_err-refuse_if_full.ensures.0) full))

pub returns-in_err-added_to : goal.returns-in_err-added_to
returns-in_err-added_to g c =
    let at = (goal.at.returns-in_err-added_to g c).In_ok-condition in
    let full = effect_full (meaning_of g.K.Kind g.K.TextKind.reading_under) (tables_of c.args.self.now) (shown_fields c.args.fields) c.in_ok-condition.condition c.in_ok-condition.settings c.in_ok-condition.strikes (condition g at) (settings g at) (strikes g at) (inr c.in_err-added_to.ensures.1) in
    rw (handed_on c.from_residual-in_err-added_to.result c.in_err-added_to.field-0.0 c.from_residual-in_err-added_to.ensures.1)
    (inr (subst (Lowest (LineWrong (meaning_of g.K.Kind g.K.TextKind.reading_under) (tables_of c.args.self.now) letter.Effect (shown_fields c.args.fields))) (sym c.in_err-added_to.ensures.0) full))

pub returns : goal.returns
returns g c =
    let at = (goal.at.returns g c).In_ok-condition in
    let new = c.in_ok-added_to.field-0 in
    let fits = c.in_ok-added_to.ensures in (
      effect_fine (meaning_of g.K.Kind g.K.TextKind.reading_under) (tables_of c.args.self.now) (shown_fields c.args.fields) c.in_ok-condition.condition c.in_ok-condition.settings c.in_ok-condition.strikes (condition g at) (settings g at) (strikes g at) new (λ full. false≢true (sym c.in_ok-refuse_if_full.ensures ∙ c.effects_full.ensures.1 full)) fits,
      record { condition = adds-formula (meaning_of g.K.Kind g.K.TextKind.reading_under) (tables_of c.args.self.now) c.args.fields.second.now c.in_ok-condition.condition (condition g at) new fits; settings = settings g at; strikes = strikes g at },
    )
