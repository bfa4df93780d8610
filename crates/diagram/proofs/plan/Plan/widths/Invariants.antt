use Rattle.std.proofs.Common.{◌≡◌, ℕ, ◌<◌, ◌≤◌, length, slice_index}
use Rattle.rules.specs.Cells.{width}
use Rattle.diagram.specs.Plans.{tree_at}
use Rattle.diagram.proofs.plan.Plan.widths.Given as goal

abbrev pub invariant-loop-i : goal.invariant-loop-i
invariant-loop-i l =
    (length l.widths ≡ 64)
    × ((k : ℕ) → k < l.i → (slice_index l.widths k ≡ width (tree_at l.self k)) × (width (tree_at l.self k) ≤ 48))
