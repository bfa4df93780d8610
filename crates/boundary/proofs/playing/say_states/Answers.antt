use Rattle.std.proofs.Common.{[], ◌+◌, drop, get_or, arith}
use Rattle.run.specs.Runs.{states}
use Rattle.boundary.specs.Texts.{page}
use Rattle.boundary.specs.Playing.{cells_numbers}
use Rattle.boundary.proofs.Pages.{rest-said}
use Rattle.boundary.proofs.Rows.{states-more}
use Rattle.boundary.proofs.playing.say_states.Goals as goal

pub loop-state-preserved : goal.loop-state-preserved
loop-state-preserved c =
    let held = states c.args.run.now in
    let i = c.loop-state.state in
    rest-said (cells_numbers (drop i held)) (get_or held i []) (cells_numbers (drop (i + 1) held)) (page c.loop-state.out c.loop-state.at) (page c.say_cells-at.new.out c.say_cells-at.result) _
    (states-more held i (omega (arith, c.loop-state-test.true, c.len-state-end.ensures.counts_the_held_states))) c.say_cells-at.ensures c.loop-state.invariant
