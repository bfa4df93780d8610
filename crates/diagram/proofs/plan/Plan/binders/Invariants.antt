use Rattle.diagram.specs.Plans.{nodes_of}
use Rattle.diagram.proofs.Downward.{PlacedFrom}
use Rattle.diagram.proofs.plan.Plan.binders.Given as goal

abbrev pub invariant-loop-i : goal.invariant-loop-i
invariant-loop-i l = PlacedFrom (nodes_of l.self) l.i l.binders
