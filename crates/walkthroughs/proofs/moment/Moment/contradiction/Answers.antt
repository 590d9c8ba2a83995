use Rattle.std.proofs.Common.{◌≡◌, Some, None, sym, subst, rules}
use Rattle.walkthroughs.specs.Moments.{depot_of, state_of}
use Rattle.walkthroughs.specs.Searching.{Contradicts, LowestBy, row_of_contradiction, sets_removed, strikes_carried}
use Rattle.walkthroughs.proofs.Contradicting.{lowest_pair, no_setting, some_strike}
use Rattle.walkthroughs.proofs.moment.Moment.contradiction.Goals as goal

pub returns-in_err-setting : goal.returns-in_err-setting
returns-in_err-setting g c =
    let d = depot_of c.args.self.now in
    let s = state_of c.args.self.now in
    let first = c.first_effect.ensures (sets_removed d s c.args.outcomes.now) (λ e b k. search rules) in
    let none : c.first_effect.result ≡ None = search rules in
    let answer : c.from_residual.result ≡ None = search rules in
    subst (LowestBy row_of_contradiction (Contradicts d s c.args.moves.now)) (sym answer) (no_setting d s c.args.moves.now c.args.outcomes.now c.requires c.first_effect.result none first)

pub returns-in_err-strike : goal.returns-in_err-strike
returns-in_err-strike g c =
    let d = depot_of c.args.self.now in
    let s = state_of c.args.self.now in
    let settings = c.settings-settings.result.now in
    let first = c.first_effect.ensures (sets_removed d s c.args.outcomes.now) (λ e b k. search rules) in
    let second = c.first_effect-2.ensures (strikes_carried d s settings) (λ e b k. search rules) in
    let is : c.first_effect.result ≡ Some c.in_ok-setting.setting = search rules in
    let none : c.first_effect-2.result ≡ None = search rules in
    absurd (some_strike d s c.args.moves.now c.args.outcomes.now c.requires c.first_effect.result first c.in_ok-setting.setting is settings c.settings-settings.ensures c.first_effect-2.result second none)

pub returns : goal.returns
returns g c =
    let d = depot_of c.args.self.now in
    let s = state_of c.args.self.now in
    let settings = c.settings-settings.result.now in
    let first = c.first_effect.ensures (sets_removed d s c.args.outcomes.now) (λ e b k. search rules) in
    let second = c.first_effect-2.ensures (strikes_carried d s settings) (λ e b k. search rules) in
    let is : c.first_effect.result ≡ Some c.in_ok-setting.setting = search rules in
    let found : c.first_effect-2.result ≡ Some c.in_ok-strike.strike = search rules in
    lowest_pair d s c.args.moves.now c.args.outcomes.now c.requires c.first_effect.result first c.in_ok-setting.setting is settings c.settings-settings.ensures c.first_effect-2.result second c.in_ok-strike.strike found
