use Rattle.std.proofs.Common.{◌∙◌, length, arith}
use Rattle.std.specs.Prelude.{codes, string_bytes}
use Rattle.rules.specs.Ends.{some_finished}
use Rattle.run.specs.Runs.{tree_in, states}
use Rattle.script.specs.Texts.{rows_line}
use Rattle.logger.proofs.States.{rows-more}
use Rattle.logger.proofs.rows.say_rows.Goals as goal

pub loop-state-preserved : goal.loop-state-preserved
loop-state-preserved c =
    let run = c.args.run.now in
    rows-more (string_bytes c.args.said.now) (rows_line (length (states run)) (some_finished (tree_in run) (states run))) (codes "\n")
    (string_bytes c.loop-state.said) (string_bytes c.writeln-in-loop-state.new.self) (states run) c.loop-state.state c.deref.result.now
    (omega (arith, c.loop-state-test.true, c.len-count.ensures.counts_the_held_states)) (c.deref.ensures.value ∙ c.in_ok-cells.ensures) c.loop-state.invariant c.in_ok-writeln-2.ensures.bytes
