use Rattle.std.proofs.Common.{◌≡◌, ℕ, ◌<◌, true, slice_index_or}
use Rattle.notation.specs.Parts.{blank_node, over_of}
use Rattle.procedure.specs.Procedures.{drawing}
use Rattle.opened.specs.Opening.{type_known}
use Rattle.opened.proofs.asking.types_known.Given as goal

abbrev pub invariant-loop-i : goal.invariant-loop-i
invariant-loop-i g l = (k : ℕ) → k < l.i → type_known (g.R.Roster.values l.roster) (over_of (slice_index_or (drawing l.procedure).nodes k blank_node)) ≡ true
