use Rattle.std.proofs.Common.{◌≡◌, [], length}
use Rattle.rules.specs.Chains.{answers_after}
use Rattle.answers.specs.Answering.{rows_of, AreOfNode}
use Rattle.answers.proofs.Entries.{Below}
use Rattle.answers.proofs.asking.ask_nodes.Given as goal

abbrev pub invariant-loop-i : goal.invariant-loop-i
invariant-loop-i g l =
    (length l.nodes ≡ length l.fn.nodes)
    × Below (λ i o. AreOfNode l.diagram (answers_after (g.H.GuardHost.meaning l.host) [] l.event) l.event i (rows_of o)) l.i l.nodes
