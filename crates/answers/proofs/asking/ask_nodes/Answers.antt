use Rattle.std.proofs.Common.{◌≡◌, refl, sym, ◌∙◌, ap, subst, ℕ, [], length, List, Option, Some, length-set, below_more, arith}
use Rattle.std.proofs.lemmas.Option.{same_Some, slice_get_read, slice_get_within}
use Rattle.std.specs.List.{slice_get}
use Rattle.notation.specs.declared.node.Node.{Node}
use Rattle.procedure.specs.Procedures.{drawing}
use Rattle.procedure.specs.declared.procedure.Procedure.{Procedure}
use Rattle.rules.specs.Chains.{answers_after}
use Rattle.diagram.specs.Plans.{nodes_of}
use Rattle.answers.specs.Answering.{rows_of, AreOfNode}
use Rattle.answers.specs.declared.answers.Replies.{Replies}
use Rattle.answers.proofs.Entries.{below-set, below-all, guard-asked}
use Rattle.answers.proofs.asking.ask_nodes.Goals as goal
use Rattle.answers.proofs.asking.ask_nodes.Goals.{in-Guard, in_default}

pub loop-i-preserved : goal.loop-i-preserved
loop-i-preserved g c =
    let d = c.args.diagram.now in
    let i = c.loop-i.i in
    let node = c.node-item.result in
    let Q = λ (k : ℕ) (o : Option Replies). AreOfNode d (answers_after (g.H.GuardHost.meaning c.args.host.now) [] c.args.event) c.args.event k (rows_of o) in
    let nodes : c.nodes-node-items.result.now ≡ nodes_of d.plan = c.nodes-node-items.ensures.tells_the_nodes ∙ ap (λ (p : Procedure). (drawing p).nodes) c.procedure.ensures.is_the_plans in
    let read : slice_get c.nodes-node-items.result.now i ≡ Some node = slice_get_read _ _ i node refl c.loop-i-test.true c.node-item.is in
    let here : slice_get (nodes_of d.plan) i ≡ Some node = subst (λ (ns : List Node). slice_get ns i ≡ Some node) nodes read in
    elim c.match-node.branch [
      | in-Guard w ↦ rw w.nodes-is (
        length-set c.loop-i.nodes i w.replies.result ∙ c.loop-i.invariant.0,
        below-set Q i c.loop-i.nodes w.replies.result (omega (arith, c.loop-i.invariant.0, d.plan.procedure.few, ap (λ (ns : List Node). length ns) nodes)) c.loop-i.invariant.1
            (guard-asked d _ c.args.event i w.in-Guard.guard w.in-Guard.body w.binders.result w.replies.result (here ∙ ap (λ (n : Node). Some n) w.in-Guard.is) w.binders.ensures.tells_what_is_above w.replies.ensures),
      )
      | in_default w ↦ rw w.nodes-is (
        c.loop-i.invariant.0,
        below_more _ i c.loop-i.invariant.1 (λ guard body at outer inner v is matters. absurd (w.in_default.not-Guard guard body (same_Some _ _ (sym here ∙ at)))),
      )
    ]

pub returns : goal.returns
returns g c =
    let d = c.args.diagram.now in
    let Q = λ (k : ℕ) (o : Option Replies). AreOfNode d (answers_after (g.H.GuardHost.meaning c.args.host.now) [] c.args.event) c.args.event k (rows_of o) in
    let nodes : c.nodes-node-items.result.now ≡ nodes_of d.plan = c.nodes-node-items.ensures.tells_the_nodes ∙ ap (λ (p : Procedure). (drawing p).nodes) c.procedure.ensures.is_the_plans in
    below-all Q c.loop-i.i c.loop-i.nodes c.loop-i.invariant.1
    (λ j ge o guard body at.
    let within = slice_get_within (nodes_of d.plan) j _ at in
    absurd (omega (arith, within, ap (λ (ns : List Node). length ns) nodes)))
