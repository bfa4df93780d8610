-- A node is finished by its children, which are below it; its initial cells by its own; a walk over values by its body.
use Rattle.std.proofs.Common.{◌≡◌, ◌+◌, ◌*◌, ◌≤◌, drop}
use Rattle.motions.specs.Framing.{part_at}
use Rattle.rules.specs.Cells.{width, finished, times, all_instances}
use Rattle.diagram.specs.Plans.{tree_at}
use Rattle.diagram.proofs.Begins.{above_child}
use Rattle.diagram.proofs.diagram.Diagram.+finishing.Given as goal

abbrev pub decreases-finished : goal.decreases-finished
decreases-finished l = 2 * l.i + 1

abbrev pub decreases-child_finished : goal.decreases-child_finished
decreases-child_finished l = 2 * above_child l.child

abbrev pub decreases-begins_finished : goal.decreases-begins_finished
decreases-begins_finished l = 2 * (l.i + 1)

abbrev pub decreases-each_finished : goal.decreases-each_finished
decreases-each_finished l = 2 * (l.body + 1)

-- what is left of the walk decides
abbrev pub invariant-each_finished-loop-k : goal.invariant-each_finished-loop-k
invariant-each_finished-loop-k l =
    let tree = tree_at l.self.plan l.body in
    let left = drop l.k l.values in
    let at = l.at + l.k * width tree in
    (at + times left (width tree) ≤ 48)
    × (all_instances (λ s. finished tree s) (width tree) l.values (part_at (times l.values (width tree)) l.row.cells l.at) ≡ all_instances (λ s. finished tree s) (width tree) left (part_at (times left (width tree)) l.row.cells at))
