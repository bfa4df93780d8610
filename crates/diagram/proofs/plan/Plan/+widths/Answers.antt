use Rattle.std.proofs.Common.{ℕ, ◌*◌, ◌<◌, List, length, get_or, sym, ap, ◌∙◌, arith}
use Rattle.notation.specs.Parts.{blank_state}
use Rattle.notation.specs.declared.node.State.{State}
use Rattle.rules.specs.Cells.{width}
use Rattle.rules.specs.Growing.{state_of, child_tree}
use Rattle.rules.specs.Trees.{Tree}
use Rattle.diagram.specs.Valued.{values_of}
use Rattle.diagram.specs.Plans.{tree_at, within_row}
use Rattle.diagram.proofs.Widths.{most-wide, times-narrow, times-wide}
use Rattle.diagram.proofs.plan.Plan.+widths.Goals as goal

pub child_room-returns-in_err-child_width : goal.child_room-returns-in_err-child_width
child_room-returns-in_err-child_width t c =
    let p = c.args.self.now in
    let items = c.as_slice-state-items.ensures.is_what_it_holds in
    let within : c.loop-state.state-index < length c.args.states.now.table.items = omega (arith, c.loop-state-test.true, ap length items) in
    let is = ap (λ (xs : List State). within_row (width (child_tree (tree_at p) (get_or xs c.loop-state.state-index blank_state).child))) items in
    c.from_residual.ensures ∙ most-wide _ _ (λ q. width (child_tree (tree_at p) (state_of c.args.states.now q).child)) within (c.in_err-child_width.ensures ∙ is)

pub width-returns-in_err-width-in-QuantifiedSynchronisation : goal.width-returns-in_err-width-in-QuantifiedSynchronisation
width-returns-in_err-width-in-QuantifiedSynchronisation t c =
    let p = c.args.self.now in
    let n = c.in-QuantifiedSynchronisation in
    let long = ap length c.of-instances.ensures.tells_the_values in
    let some : 0 < length (values_of p.values n.over) = omega (arith, long, c.if-instances-eq0.false) in
    let e = c.in_err-width-in-QuantifiedSynchronisation.ensures ∙ ap (λ (i : ℕ). within_row (width (tree_at p i))) c.from-in-QuantifiedSynchronisation.ensures in
    c.from_residual-in_err-width-in-QuantifiedSynchronisation.ensures ∙ times-wide (values_of p.values n.over) (width (tree_at p n.body)) some e
    ∙ ap (λ (t : Tree). within_row (width t)) (sym n.ensures.opens_its_tree.is)

pub width-returns-in_ok-width-in-QuantifiedSynchronisation : goal.width-returns-in_ok-width-in-QuantifiedSynchronisation
width-returns-in_ok-width-in-QuantifiedSynchronisation t c =
    let p = c.args.self.now in
    let n = c.in-QuantifiedSynchronisation in
    let long = ap length c.of-instances.ensures.tells_the_values in
    let w = c.in_ok-width-in-QuantifiedSynchronisation.field-0 in
    let e = c.in_ok-width-in-QuantifiedSynchronisation.ensures ∙ ap (λ (i : ℕ). within_row (width (tree_at p i))) c.from-in-QuantifiedSynchronisation.ensures in
    c.within_row-in-QuantifiedSynchronisation.ensures ∙ ap (λ (k : ℕ). within_row (w * k)) long ∙ times-narrow (values_of p.values n.over) (width (tree_at p n.body)) w e
    ∙ ap (λ (t : Tree). within_row (width t)) (sym n.ensures.opens_its_tree.is)
