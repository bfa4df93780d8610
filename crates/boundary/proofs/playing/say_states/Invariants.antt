use Rattle.std.proofs.Common.{◌≡◌, drop}
use Rattle.run.specs.Runs.{tree_in, states}
use Rattle.boundary.specs.Texts.{page, said}
use Rattle.boundary.specs.Playing.{cells_numbers, states_numbers}
use Rattle.boundary.proofs.playing.say_states.Given as goal

abbrev pub invariant-loop-state : goal.invariant-loop-state
invariant-loop-state l = said (cells_numbers (drop l.state (states l.run))) (page l.out l.at) ≡ said (states_numbers (tree_in l.run) (states l.run)) (page l.fn.out l.fn.at)
