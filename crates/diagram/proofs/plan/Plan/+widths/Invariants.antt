use Rattle.std.proofs.Common.{◌≡◌, ◌+◌, ◌*◌, ◌≤◌}
use Rattle.rules.specs.Cells.{width, most}
use Rattle.rules.specs.Growing.{state_of, child_tree}
use Rattle.diagram.specs.Plans.{tree_at}
use Rattle.diagram.proofs.plan.Plan.+widths.Given as goal

-- a node's own child is below it
abbrev pub decreases-width : goal.decreases-width
decreases-width l = 3 * l.i + 2

abbrev pub decreases-child_room : goal.decreases-child_room
decreases-child_room l = 3 * l.i + 1

abbrev pub decreases-child_width : goal.decreases-child_width
decreases-child_width l = 3 * l.i

abbrev pub invariant-child_room-loop-state : goal.invariant-child_room-loop-state
invariant-child_room-loop-state l =
    (l.widest ≡ most l.state-index (λ q. width (child_tree (tree_at l.self) (state_of l.states q).child)))
    × (l.widest ≤ 48)
