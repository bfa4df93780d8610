-- What an opened diagram was opened with, and what an opening does.
use Rattle.std.specs.Prelude.{◌≡◌, ℕ, List, [], ◌∷◌, Option}
use Rattle.procedure.specs.Procedures.{drawing}
use Rattle.procedure.specs.Drawings.{Drawing}
use Rattle.rules.specs.Trees.{Tree}
use Rattle.rules.specs.Cells.{initial}
use Rattle.rules.specs.Growing.{Values}
use Rattle.diagram.specs.Valued.{values_of, kept_of}
use Rattle.opened.specs.Opening.{told_values, root_tree}
use Rattle.opened.specs.States.{states_in}
use Rattle.opened.specs.declared.opened.Opened.{Opened}

-- what a run was opened with: what the procedure draws, the values of each type, and the ceiling
pub record OpenedWith : Type 0 where
  pub drawing : Drawing
  pub values : Values
  pub ceiling : ℕ

-- that of an opened diagram
abbrev pub with_of : Opened → OpenedWith
with_of o = record { drawing = drawing o.diagram.plan.procedure; values = values_of o.diagram.plan.values; ceiling = o.ceiling }

-- the tree of its root
abbrev pub tree_of_opened : Opened → Tree
tree_of_opened o = root_tree (with_of o).values (with_of o).drawing

-- an opening takes over what the procedure draws, what is kept of the values that a roster tells, and the ceiling, and holds the initial
-- state of the root's tree, which is the tree under all that the roster tells
pub record OpensWith (d : Drawing) (told : ℕ → Option (List ℕ)) (ceiling : ℕ) (o : Opened) : Type 0 where
  pub takes_over : with_of o ≡ record { drawing = d; values = kept_of told; ceiling = ceiling }
  pub has_the_tree : root_tree (kept_of told) d ≡ root_tree (told_values told) d
  pub begins : states_in o.held ≡ initial (root_tree (told_values told) d) ∷ []
