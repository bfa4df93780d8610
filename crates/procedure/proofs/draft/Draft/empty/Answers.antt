use Rattle.std.proofs.Common.{refl, arith}
use Rattle.procedure.proofs.Growing.{nobody}
use Rattle.procedure.proofs.draft.Draft.empty.Goals as goal

pub invariant_of-result : goal.invariant_of-result
invariant_of-result c =
    let n = c.new.ensures.holds_nothing in
    let a = c.new-2.ensures.holds_nothing in
    record { few-nodes = rw n (omega arith); few-arrows = rw a (omega arith); parent-places = refl; parents = λ k lt. rw n (nobody k); nodes-sound = rw n refl; arrows-sound = rw (n, a) refl }
