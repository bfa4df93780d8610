use Rattle.std.proofs.Common.{◌≡◌, ◌+◌, ◌-◌, ◌≤◌, length, ◌∙◌, arith}
use Rattle.procedure.specs.Procedures.{drawing}
use Rattle.rules.proofs.Growing.{children-below}
use Rattle.diagram.specs.Plans.{nodes_of}
use Rattle.diagram.proofs.Downward.{placed-none, placed-more}
use Rattle.diagram.proofs.plan.Plan.binders.Goals as goal

pub loop-i-init : goal.loop-i-init
loop-i-init c = rw c.node_count-i.ensures.counts_nodes (placed-none (nodes_of c.args.self.now) 64)

pub place-requires : goal.place-requires
place-requires c =
    let p = c.args.self.now.procedure in
    let few : length (nodes_of c.args.self.now) ≤ 64 = p.few in
    let count = c.node_count-i.ensures.counts_nodes in
    record { are_inside = λ k m. let lt = children-below (drawing p) p.drawn _ _ c.node-node.ensures.is_the_node k m in omega arith }

pub loop-i-preserved : goal.loop-i-preserved
loop-i-preserved c =
    let p = c.args.self.now.procedure in
    let next : c.loop-i.i - 1 + 1 ≡ c.loop-i.i = omega arith in
    placed-more (drawing p) p.drawn _ _ _ _ c.node-node.ensures.is_the_node (rw next c.loop-i.invariant)
    (λ k m. c.place.ensures.puts k m ∙ c.under-above.ensures.is_what_is_above_a_child) c.place.ensures.leaves

pub returns : goal.returns
returns c = (λ i k n e m. c.loop-i.invariant.placed i k n (omega arith) e m, c.loop-i.invariant.rooted)
