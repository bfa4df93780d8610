use Rattle.procedure.specs.Procedures.{drawing}
use Rattle.rules.proofs.Growing.{children-below, tree-unfolds}
use Rattle.rules.proofs.laws.trees_unfold.Goals as goal

pub returns-clause-a_tree_is_made_of_its_childrens : goal.returns-clause-a_tree_is_made_of_its_childrens
returns-clause-a_tree_is_made_of_its_childrens c p values = tree-unfolds values (drawing p) (children-below (drawing p) p.drawn)

pub returns-clause-children_are_below_their_node : goal.returns-clause-children_are_below_their_node
returns-clause-children_are_below_their_node c p = children-below (drawing p) p.drawn
