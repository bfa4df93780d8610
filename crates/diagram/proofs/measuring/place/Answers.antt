use Rattle.std.proofs.Common.{ℕ, List, subst, ◌∙◌}
use Rattle.std.proofs.lemmas.List.{take_all}
use mathlib.Core.List.{Memᴰ}
use Rattle.diagram.proofs.Placing.{Put, put-none, put-more, at-member}
use Rattle.diagram.proofs.measuring.place.Goals as goal

pub bounds-binders-from : goal.bounds-binders-from
bounds-binders-from c =
    let children = c.as_slice-child-items.ensures.is_what_it_holds ∙ c.children-children.ensures.tells_the_children in
    c.requires.are_inside c.from.result (subst (Memᴰ c.from.result) children (at-member _ _ _ c.loop-child-test.true c.from.ensures))

pub loop-child-init : goal.loop-child-init
loop-child-init c = put-none c.args.above c.args.binders.now

pub loop-child-preserved : goal.loop-child-preserved
loop-child-preserved c = put-more _ _ _ _ _ _ c.loop-child-test.true c.from.ensures (rw c.told-binders (bounds-binders-from c)) c.loop-child.invariant

pub returns : goal.returns
returns c =
    let children = c.as_slice-child-items.ensures.is_what_it_holds ∙ c.children-children.ensures.tells_the_children in
    let all = take_all c.loop-child.child-index c.as_slice-child-items.result.now c.loop-child-test.false ∙ children in
    let p = subst (λ (ks : List ℕ). Put c.args.above ks c.args.binders.now c.loop-child.binders) all c.loop-child.invariant in
    record { puts = p.puts; leaves = p.leaves }
