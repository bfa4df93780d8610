-- A node begins by its children, which are below it; a child is entered by it alone; a walk over values stays at its body.
use Rattle.std.proofs.Common.{◌+◌, ◌*◌, length}
use Rattle.diagram.proofs.Begins.{above_child}
use Rattle.diagram.proofs.diagram.Diagram.+beginnings.Given as goal

abbrev pub decreases-begin : goal.decreases-begin
decreases-begin l = 20 * l.i + 19

abbrev pub decreases-begin_each : goal.decreases-begin_each
decreases-begin_each l = 20 * (l.body + 1) + length l.values.now

abbrev pub decreases-enter : goal.decreases-enter
decreases-enter l = 20 * above_child l.child
