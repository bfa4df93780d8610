use Rattle.std.proofs.Common.{List, Decides, take}
use mathlib.Core.List.{Memᴰ}
use Rattle.ordered.specs.Order.{Order}
use Rattle.ordered.proofs.Found.{tells}
use Rattle.ordered.proofs.list.Ordered.has.Given.{Over}
use Rattle.ordered.proofs.list.Ordered.has.Goals as goal

order : (g : Over) → Order g.T.Rank.rank
order g = record { flip = g.met.T.Rank.flip; chain = g.met.T.Rank.chain; same = g.met.T.Rank.same }

pub returns : goal.returns
returns g c =
    let xs : List g.row.T.Denot = take c.args.self.now.used c.args.self.now.places.now in
    let found : Decides c.is_ok.result (Memᴰ c.args.x.now xs) = rw c.is_ok.ensures.value (tells g.T.Rank.rank (order g) xs c.args.x.now c.seek.result c.args.self.now.rises (rw c.as_slice.ensures.tells_what_is_held at c.seek.ensures)) in
    record { tells_whether_it_is_held = found }
