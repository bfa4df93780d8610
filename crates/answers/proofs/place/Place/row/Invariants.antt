use Rattle.std.proofs.Common.{[]}
use Rattle.rules.specs.Chains.{answers_after}
use Rattle.answers.specs.Answering.{IsAnswer}
use Rattle.answers.proofs.Bits.{Filled}
use Rattle.answers.proofs.place.Place.row.Given as goal

abbrev pub invariant-loop-inner : goal.invariant-loop-inner
invariant-loop-inner g l = Filled (λ inner answer. IsAnswer l.diagram (answers_after (g.H.GuardHost.meaning l.host) [] l.event) l.event l.self l.outer inner answer) l.inner l.row
