use Rattle.std.proofs.Common.{◌≡◌, drop}
use Rattle.procedure.specs.Claims.{claims}
use Rattle.procedure.proofs.claim.Claims.claim_children.Given as goal

abbrev pub invariant-loop-child : goal.invariant-loop-child
invariant-loop-child l =
    (claims l.self.node l.self.parents (drop l.child-index l.child-items) ≡ claims l.initial.self.node l.initial.self.parents l.child-items)
    × (l.self.node ≡ l.initial.self.node) × (l.self.place ≡ l.initial.self.place)
