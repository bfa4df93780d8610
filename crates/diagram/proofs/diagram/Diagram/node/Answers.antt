use Rattle.diagram.proofs.Opens.{above}
use Rattle.diagram.proofs.diagram.Diagram.node.Goals as goal

pub returns-clause-tells_what_is_above_its_children : goal.returns-clause-tells_what_is_above_its_children
returns-clause-tells_what_is_above_its_children c = above c.args.self.now.plan c.args.i c.args.self.now.binders c.args.self.now.placed c.node.result c.node.ensures.is_the_node
