use Rattle.std.proofs.Common.{rules}
use borrow.Author.Tests.{tests}
use Rattle.depots.specs.Tables.{tables_of}
use Rattle.walkthroughs.proofs.Contradicting.{carries_read}
use Rattle.walkthroughs.proofs.moment.Moment.carries.Goals as goal

pub returns : goal.returns
returns g c = carries_read g.K.Kind.carrying c.is_some_and.result _ (λ x k. search (rules, tests)) (tables_of c.args.self.now.depot.now).facts c.args.number c.args.other c.fact_at.result c.fact_at-2.result c.zip.result c.fact_at.ensures c.fact_at-2.ensures c.zip.ensures c.is_some_and.ensures
