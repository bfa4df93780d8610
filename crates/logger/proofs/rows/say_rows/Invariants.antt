use Rattle.std.proofs.Common.{◌≡◌, ◌++◌, length, take}
use Rattle.std.specs.Prelude.{codes, string_bytes}
use Rattle.std.specs.List.{flat_map}
use Rattle.rules.specs.Ends.{some_finished}
use Rattle.run.specs.Runs.{tree_in, states}
use Rattle.script.specs.Texts.{rows_line}
use Rattle.logger.proofs.States.{row}
use Rattle.logger.proofs.rows.say_rows.Given as goal

abbrev pub invariant-loop-state : goal.invariant-loop-state
invariant-loop-state l =
    string_bytes l.said ≡ string_bytes l.fn.said ++ (rows_line (length (states l.run)) (some_finished (tree_in l.run) (states l.run)) ++ (codes "\n" ++ flat_map row (take l.state (states l.run))))
