-- The table by nodes has each node's arrows.
use Rattle.std.proofs.Common.{◌<◌, ◌≤◌, ◌∙◌, ℕ, length, arith}
use Rattle.diagram.specs.Plans.{nodes_of, arrows_in}
use Rattle.diagram.specs.declared.diagram.Diagram.{Diagram}
use Rattle.diagram.specs.declared.keyed_arrows.Key.TheVariants.{Node}
use Rattle.diagram.proofs.Owned.{has-place, keyed-between}
use Rattle.diagram.proofs.diagram.Diagram.own_arrows.Goals as goal

-- the number of a node is a key
few : (d : Diagram) (i : ℕ) → i < length (nodes_of d.plan) → i < 256
few d i h = let most : length (nodes_of d.plan) ≤ 64 = d.plan.procedure.few in omega arith

pub of-requires-clause-is_key : goal.of-requires-clause-is_key
of-requires-clause-is_key c = few c.args.self.now c.args.node c.requires.is_node

pub of-requires-clause-has_its_place : goal.of-requires-clause-has_its_place
of-requires-clause-has_its_place c =
    let d = c.args.self.now in
    has-place Node (arrows_in d.plan) d.own d.own_sorted c.args.node (few d c.args.node c.requires.is_node)

pub returns : goal.returns
returns c =
    let d = c.args.self.now in
    record { tells_its_arrows = c.of.ensures ∙ keyed-between Node (arrows_in d.plan) d.own d.own_sorted c.args.node (few d c.args.node c.requires.is_node) }
