use Rattle.std.proofs.Common.{◌≡◌, ◌≤◌, ◌++◌, length, drop}
use Rattle.notation.specs.Parts.{children_of_states}
use Rattle.notation.proofs.node.Node.children.Given as goal

abbrev pub invariant-loop-state : goal.invariant-loop-state
invariant-loop-state l =
    (l.children.items ++ children_of_states (drop l.state-index l.state-items) ≡ children_of_states l.state-items)
    × (length l.children.items ≤ l.state-index)
