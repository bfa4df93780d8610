-- Parts of a row.
use Rattle.std.specs.Prelude.{◌≡◌, ℕ, zero, suc, ◌+◌, ◌<◌, ◌≤◌, length, Option, Some, None}
use Rattle.std.specs.List.{slice_get}
use Rattle.notation.specs.declared.node.Node.{Node}
use Rattle.rules.specs.Trees.{Tree, no_variables}
use Rattle.rules.specs.Cells.{width}
use Rattle.diagram.specs.Valued.{values_of}
use Rattle.diagram.specs.Plans.{nodes_of, tree_at}
use Rattle.diagram.specs.Scopes.{binders_at, Suits}
use Rattle.diagram.specs.declared.diagram.Diagram.{Diagram}
use Rattle.diagram.specs.declared.part.Part.{Part}

-- the tree of a part
abbrev pub part_tree : Diagram → Part → Tree
part_tree d p = tree_at d.plan p.node

-- how many cells it takes
abbrev pub part_width : Diagram → Part → ℕ
part_width d p = width (part_tree d p)

-- a part is that of a node
abbrev pub IsPartOf : Diagram → Node → Part → Type 0
IsPartOf d n p = slice_get (nodes_of d.plan) p.node ≡ Some n

-- a part of a diagram within a row, under variables that can be in scope there
pub record InPlace (d : Diagram) (p : Part) : Type 0 where
  pub is_node : p.node < length (nodes_of d.plan)
  pub is_inside : p.at + part_width d p ≤ 48
  pub suits : Suits (values_of d.plan.values) (binders_at d.binders p.node) p.scope

-- the last of some nodes has the whole row, and no variables in scope; without a node there is no such part
abbrev pub last_part : ℕ → Option Part
last_part zero = None
last_part (suc n) = Some (record { node = n; at = 0; scope = record { outer = 0; inner = 0; variables = no_variables } })

-- the part of the root
abbrev pub root_part : Diagram → Option Part
root_part d = last_part (length (nodes_of d.plan))
