-- The trees of a plan's nodes, and their widths.
use Rattle.std.specs.Prelude.{◌≡◌, ℕ, ◌<◌, ◌≤◌, cond, List, length, Option, Some, None, nat_le, slice_index}
use Rattle.notation.specs.declared.arrow.Arrow.{Arrow}
use Rattle.notation.specs.declared.node.Node.{Node}
use Rattle.procedure.specs.Procedures.{drawing}
use Rattle.rules.specs.Trees.{Tree}
use Rattle.rules.specs.Cells.{width}
use Rattle.rules.specs.Growing.{tree_of}
use Rattle.diagram.specs.Valued.{values_of}
use Rattle.diagram.specs.declared.plan.Plan.{Plan}

-- the nodes of a plan by their numbers
abbrev pub nodes_of : Plan → List Node
nodes_of p = (drawing p.procedure).nodes

-- its arrows by theirs
abbrev pub arrows_in : Plan → List Arrow
arrows_in p = (drawing p.procedure).arrows

-- the tree of a node
abbrev pub tree_at : Plan → ℕ → Tree
tree_at p i = tree_of (values_of p.values) (drawing p.procedure) i

-- a width, if it is within a row
abbrev pub within_row : ℕ → Option ℕ
within_row n = cond (nat_le n 48) (Some n) None

-- no node is wider than a row, and these are the widths
abbrev pub Measured : Plan → List ℕ → Type 0
Measured p widths = (k : ℕ) → k < length (nodes_of p) → (slice_index widths k ≡ width (tree_at p k)) × (width (tree_at p k) ≤ 48)

-- node i is the lowest that is wider than a row
pub record LowestWide (p : Plan) (i : ℕ) : Type 0 where
  pub is_node : i < length (nodes_of p)
  pub wide : 48 < width (tree_at p i)
  pub lowest : (k : ℕ) → k < i → width (tree_at p k) ≤ 48
