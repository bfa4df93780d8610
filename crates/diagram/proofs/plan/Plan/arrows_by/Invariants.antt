-- The arrows of the keys so far are put down.
use Rattle.diagram.specs.Plans.{arrows_in}
use Rattle.diagram.proofs.Owned.{SoFar}
use Rattle.diagram.proofs.plan.Plan.arrows_by.Given as goal

abbrev pub invariant-loop-value : goal.invariant-loop-value
invariant-loop-value l = SoFar l.key (arrows_in l.self) l.value l.numbers.items l.starts
