use Rattle.std.proofs.Common.{◌≡◌, ℕ, ◌<◌, length, slice_index_or}
use Rattle.diagram.specs.Valued.{no_list, fitting}
use Rattle.diagram.proofs.type_values.TypeValues.told_by.Given as goal

abbrev pub invariant-loop-ty : goal.invariant-loop-ty
invariant-loop-ty g l =
    (length l.lists ≡ 8)
    × ((k : ℕ) → k < l.ty → (slice_index_or l.lists k no_list).items ≡ fitting (g.R.Roster.values l.roster k))
