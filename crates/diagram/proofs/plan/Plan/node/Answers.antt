use Rattle.std.proofs.Common.{◌≡◌, refl, subst, List, length, slice_index_or}
use Rattle.std.proofs.lemmas.Option.{slice_get_read}
use Rattle.notation.specs.declared.node.Node.{Node}
use Rattle.diagram.proofs.Opens.{opens}
use Rattle.diagram.specs.Plans.{nodes_of}
use Rattle.diagram.proofs.plan.Plan.node.Goals as goal

pub returns-clause-opens_its_tree : goal.returns-clause-opens_its_tree
returns-clause-opens_its_tree c = opens c.args.self.now c.args.i c.index-nodes-i.result (slice_get_read (nodes_of c.args.self.now) (length (nodes_of c.args.self.now)) c.args.i c.index-nodes-i.result refl c.requires.is_node (subst (λ (xs : List Node). c.index-nodes-i.result ≡ slice_index_or xs c.args.i c.index-nodes-i.result) c.nodes.ensures.tells_the_nodes c.index-nodes-i.is))
