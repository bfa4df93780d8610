-- What a procedure holds: its nodes and its arrows, each numbered from 0 in file order. The last node is the root.
use Rattle.std.specs.Prelude.{List, [], ◌∷◌, ◌++◌, Some, None, Option}
use Rattle.notation.specs.declared.node.Node.{Node}
use Rattle.notation.specs.declared.arrow.Arrow.{Arrow}
use Rattle.record.specs.declared.entry.Entry.{Entry}
use Rattle.record.specs.declared.entry.Entry.TheVariants as e

-- the nodes and the arrows, each in the order of their numbers
pub record Drawing : Type 0 where
  pub nodes : List Node
  pub arrows : List Arrow

-- no node and no arrow
abbrev pub nothing_drawn : Drawing
nothing_drawn = record { nodes = []; arrows = [] }

-- a drawing with one entry more, if there is one
abbrev pub grown : Drawing → Option Entry → Drawing
grown d None = d
grown d (Some (e.Node n)) = record { nodes = d.nodes ++ n ∷ []; arrows = d.arrows }
grown d (Some (e.Arrow a)) = record { nodes = d.nodes; arrows = d.arrows ++ a ∷ [] }
