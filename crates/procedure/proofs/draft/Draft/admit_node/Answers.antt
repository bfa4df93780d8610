use Rattle.std.proofs.Common.{arith, rules}
use Rattle.std.proofs.lemmas.Grind.{common_steps}
use Rattle.procedure.proofs.Growing.{node-more, node-passes, node-taken}
use Rattle.procedure.proofs.draft.Draft.admit_node.Goals as goal

pub returns-in_err-claim_children : goal.returns-in_err-claim_children
returns-in_err-claim_children c = grind (arith, common_steps, node-taken)

pub invariant_of-self : goal.invariant_of-self
invariant_of-self c = node-more c.self.inside c.args.node c.claim_children.new.self.parents c.self.invariant c.requires (search rules) (search rules) c.push.new.self c.push.ensures.holds_one_more

pub returns : goal.returns
returns c =
    let p = node-passes c.self.inside c.args.node c.claim_children.new.self.parents c.args.place c.self.invariant (search rules) (search rules) in
    rw (← c.self.view_is) ((λ i. record { nodes = c.push.ensures.holds_one_more i; arrows = c.self.inside.arrows.items }), p)
