use Rattle.std.proofs.Common.{ℕ, ◌<◌, true}
use Rattle.procedure.proofs.asking.ask_each.Given as goal

abbrev pub invariant-loop-place : goal.invariant-loop-place
invariant-loop-place g l = (k : ℕ) → k < l.place → goal.F-post g l.yes k true
