use Rattle.std.proofs.Common.{◌≡◌, true, length, Some, slice_index_or, sym, ap, ◌∙◌, refl, below_more, arith}
use Rattle.fault.specs.declared.fault.Question.TheVariants.{TypesKnown}
use Rattle.fault.proofs.Refusals.{each-yes, one-no}
use Rattle.notation.specs.Parts.{blank_node, over_of}
use Rattle.procedure.specs.Procedures.{drawing}
use Rattle.opened.specs.Opening.{type_known}
use Rattle.opened.proofs.Openings.{item-known}
use Rattle.opened.proofs.asking.types_known.Goals as goal
use Rattle.opened.proofs.asking.types_known.Goals.{in-Some+else-not-has_few, in_default}

pub loop-i-init : goal.loop-i-init
loop-i-init g c k lt = absurd (omega arith)

pub returns-then-not-has_few : goal.returns-then-not-has_few
returns-then-not-has_few g c =
    let ns = (drawing c.args.procedure.now).nodes in
    let told = g.R.Roster.values c.args.roster.now in
    let over : over_of c.node-item.result ≡ Some c.in-Some.over = sym c.over.ensures.tells_the_type ∙ c.in-Some.is in
    one-no TypesKnown (length ns) c.loop-i.i (λ k. type_known told (over_of (slice_index_or ns k blank_node))) (rw c.nodes-node-items.ensures.tells_the_nodes at c.loop-i-test.true) c.loop-i.invariant
    (item-known told ns c.nodes-node-items.result.now c.loop-i.i c.node-item.result c.nodes-node-items.ensures.tells_the_nodes c.loop-i-test.true c.node-item.is ∙ ap (type_known told) over ∙ sym c.has_few.ensures ∙ c.if-not-has_few.true)
    ∙ ap Some (sym c.at.ensures.is_this_question_at_the_place)

pub loop-i-preserved : goal.loop-i-preserved
loop-i-preserved g c =
    let ns = (drawing c.args.procedure.now).nodes in
    let told = g.R.Roster.values c.args.roster.now in
    let known : type_known told c.over.result ≡ true =
    elim c.match-over.branch [ in-Some+else-not-has_few w ↦ rw w.in-Some.is (sym w.has_few.ensures ∙ w.if-not-has_few.false) | in_default w ↦ rw w.in_default.is refl ] in
    below_more _ _ c.loop-i.invariant
    (item-known told ns c.nodes-node-items.result.now c.loop-i.i c.node-item.result c.nodes-node-items.ensures.tells_the_nodes c.loop-i-test.true c.node-item.is
    ∙ ap (type_known told) (sym c.over.ensures.tells_the_type)
    ∙ known)

pub returns : goal.returns
returns g c =
    let ns = (drawing c.args.procedure.now).nodes in
    let told = g.R.Roster.values c.args.roster.now in
    let n : length c.nodes-node-items.result.now ≡ length ns = ap length c.nodes-node-items.ensures.tells_the_nodes in
    each-yes TypesKnown (length ns) (λ k. type_known told (over_of (slice_index_or ns k blank_node))) (λ k lt. c.loop-i.invariant k (omega (arith, n, lt, c.loop-i-test.false)))
