use Rattle.std.proofs.Common.{rules, sym, ap, ◌∙◌}
use Rattle.std.proofs.lemmas.Fn.{always_returns_same}
use Rattle.std.specs.Ordering.{is_gt}
use Rattle.ordered.specs.Order.{Order}
use Rattle.ordered.proofs.Found.{at-end, searched}
use Rattle.ordered.proofs.placing.seek.Given.{Over}
use Rattle.ordered.proofs.placing.seek.Goals as goal

order : (g : Over) → Order g.T.Rank.rank
order g = record { flip = g.met.T.Rank.flip; chain = g.met.T.Rank.chain; same = g.met.T.Rank.same }

pub returns-then-is_gt : goal.returns-then-is_gt
returns-then-is_gt g c =
    at-end g.T.Rank.rank (order g) c.args.xs.now c.args.x.now c.requires c.in-Some.last.now c.in-Some.ensures.item.3.1
    (sym (ap is_gt c.compare.ensures.is_the_rank) ∙ (sym c.is_gt.ensures ∙ c.if-is_gt.true))

pub returns : goal.returns
returns g c =
    searched g.T.Rank.rank (order g) c.args.xs.now c.args.x.now c.requires c.binary_search_by.result c.binary_search_by.ensures.bound
    (c.binary_search_by.ensures.position (λ y. g.T.Rank.rank y c.args.x.now) (always_returns_same _ _ _ (λ a r f' k. search rules)))
