use Rattle.std.proofs.Common.{sym, ◌∙◌}
use Rattle.facts.specs.Numbering.{number_under}
use Rattle.sheets.specs.Pieces.{pieces}
use Rattle.depots.proofs.Gathered.{before_formed, before_formless}
use Rattle.depots.proofs.settings.told.Goals as goal

pub returns-in-NotListed-Some : goal.returns-in-NotListed-Some
returns-in-NotListed-Some g c =
    rw (c.in-NotListed-Some.is-0, c.in-NotListed-Some.is-1) (sym (before_formless (number_under g.K.Kind c.args.listed.now) (pieces 44 c.in-NotListed-Some.parts.now) (sym c.all_formed.ensures ∙ c.if-not-all_formed.true)))

pub returns-in-NotListed-default : goal.returns-in-NotListed-default
returns-in-NotListed-default g c =
    rw (c.in-NotListed-Some.is-0, c.in-NotListed-Some.is-1) (sym (before_formed (number_under g.K.Kind c.args.listed.now) (pieces 44 c.in-NotListed-Some.parts.now) (sym c.all_formed.ensures ∙ c.if-not-all_formed.false)))
