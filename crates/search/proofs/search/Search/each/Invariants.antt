-- What the rows so far have added, if the table agrees with the guards.
use Rattle.std.proofs.Common.{◌≤◌, take}
use Rattle.ordered.specs.Held.{held, room}
use Rattle.rules.specs.Trees.{Guards}
use Rattle.motions.specs.Collecting.{Gained, Stays, FromEach}
use Rattle.answers.specs.Answering.{Agrees}
use Rattle.search.specs.Searching.{Reached}
use Rattle.search.proofs.search.Search.each.Given as goal

abbrev pub invariant-loop-row : goal.invariant-loop-row
invariant-loop-row l =
    Stays l.initial.out l.out
    × ((g : Guards) → Agrees l.self.diagram.now l.self.answers.now g → room l.initial.out ≤ 128
    → Gained (FromEach (take l.row-index l.rows) (λ x y. Reached l.self.diagram.now l.self.answers.now g l.part x y)) (held l.initial.out) (held l.out))
