use Rattle.procedure.proofs.Reached.{Reached}
use Rattle.procedure.proofs.draft.Draft.fill.Given as goal

abbrev pub invariant-loop-place : goal.invariant-loop-place
invariant-loop-place l = Reached l.bytes l.place l.at l.self
