-- The arrows so far and those still to come are those that have the key.
use Rattle.std.proofs.Common.{◌≡◌, ◌++◌}
use Rattle.diagram.specs.Owning.{keyed}
use Rattle.diagram.proofs.Owned.{still_keyed}
use Rattle.diagram.proofs.owning.push_keyed.Given as goal

abbrev pub invariant-loop-number : goal.invariant-loop-number
invariant-loop-number l = l.numbers.items ++ still_keyed l.key l.arrows l.value l.number ≡ l.initial.numbers.items ++ keyed l.key l.arrows l.value
