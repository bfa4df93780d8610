use Rattle.std.proofs.Common.{◌≡◌, [], drop, get_or}
use Rattle.run.specs.Runs.{states}
use Rattle.boundary.specs.Texts.{page, said}
use Rattle.boundary.proofs.playing.say_cells.Given as goal

abbrev pub invariant-loop-cell : goal.invariant-loop-cell
invariant-loop-cell l = said (drop l.cell (get_or (states l.run) l.state [])) (page l.out l.at) ≡ said (get_or (states l.run) l.state []) (page l.fn.out l.fn.at)
