use Rattle.std.proofs.Common.{◌≡◌, [], take, get_or}
use Rattle.run.specs.Runs.{states}
use Rattle.logger.proofs.rows.cells_of.Given as goal

abbrev pub invariant-loop-cell : goal.invariant-loop-cell
invariant-loop-cell l = l.cells.items ≡ take l.cell (get_or (states l.run) l.state [])
