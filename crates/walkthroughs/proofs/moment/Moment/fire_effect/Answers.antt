use Rattle.std.proofs.Common.{◌≡◌, ℕ, ◌||◌, ◌∙◌, ap, rules}
use Rattle.std.specs.List.{list_any}
use Rattle.depots.specs.Tables.{tables_of}
use Rattle.formulas.specs.Truth.{stands_in}
use Rattle.walkthroughs.specs.Kinds.{carries_among}
use Rattle.walkthroughs.proofs.Spread.{any_turned}
use Rattle.walkthroughs.proofs.moment.Moment.fire_effect.Goals as goal

pub returns : goal.returns
returns g c =
    let facts = (tables_of c.args.self.now.depot.now).facts in
    let adds : (f : ℕ) → stands_in c.mark_by.new.row f ≡ (stands_in c.args.outcome.now.adds f || list_any (λ n. carries_among g.K.Kind.carrying facts n f) c.settings.result.now) = c.mark_by.ensures (λ x y. g.K.Kind.carrying x y) (λ fact marks after k. search rules) in
    let removes : (f : ℕ) → stands_in c.mark_by-2.new.row f ≡ (stands_in c.args.outcome.now.removes f || list_any (λ n. carries_among g.K.Kind.carrying facts f n) c.strikes.result.now) =
    λ f. c.mark_by-2.ensures (λ x y. g.K.Kind.carrying y x) (λ fact marks after k. search rules) f ∙ ap (λ b. stands_in c.args.outcome.now.removes f || b) (any_turned g.K.Kind.carrying facts f c.strikes.result.now) in
    search rules
