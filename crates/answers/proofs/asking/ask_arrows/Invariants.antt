use Rattle.std.proofs.Common.{◌≡◌, [], length}
use Rattle.rules.specs.Chains.{answers_after}
use Rattle.answers.specs.Answering.{rows_of, AreOfArrow}
use Rattle.answers.proofs.Entries.{Below}
use Rattle.answers.proofs.asking.ask_arrows.Given as goal

abbrev pub invariant-loop-k : goal.invariant-loop-k
invariant-loop-k g l =
    (length l.arrows ≡ length l.fn.arrows)
    × Below (λ k o. AreOfArrow l.diagram (answers_after (g.H.GuardHost.meaning l.host) [] l.event) l.event k (rows_of o)) l.k l.arrows
