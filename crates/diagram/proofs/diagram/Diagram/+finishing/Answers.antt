-- What is read of a row is whether its part is finished.
use Rattle.std.proofs.Common.{◌≡◌, ℕ, ◌*◌, ◌<◌, slice_index, Option, Some, refl, sym, ap, ◌∙◌, arith}
use Rattle.notation.specs.declared.node.State.{State}
use Rattle.rules.specs.Trees.{closure, sequence, guarded, choice, synchronisation, quantified_choice}
use Rattle.rules.specs.Cells.{width, finished}
use Rattle.rules.specs.Growing.{labels_of, child_tree, state_of}
use Rattle.diagram.specs.Plans.{tree_at}
use Rattle.diagram.proofs.Begins.{child-below, state-room}
use Rattle.diagram.proofs.Finishes.{and-on, and-off, in-second, in-first, in-closure, in-guard, in-left, in-right, in-both, in-deep, in-body, in-no-room, room-left, each-on, each-off}
use Rattle.diagram.proofs.diagram.Diagram.+finishing.Goals as goal

pub finished-child_finished-requires : goal.finished-child_finished-requires
finished-child_finished-requires t c =
    let o = c.in-Automaton.ensures.opens_its_tree in
    let states = c.in-Automaton.states in
    let plan = c.args.self.now.plan in
    let child = c.state-state.result.child in
    let tag = slice_index c.args.row.now.cells c.args.at in
    let state : child ≡ (state_of states tag).child = ap (λ (s : State). s.child) c.state-state.ensures.tells_the_state in
    let below : (k : ℕ) → child ≡ Some k → k < c.args.i = λ k e. o.below tag k (sym state ∙ e) in
    let room = state-room (tree_at plan) states tag in
    let same = ap (λ (k : Option ℕ). width (child_tree (tree_at plan) k)) state in
    let wide = ap width o.is in
    (omega (arith, child-below child c.args.i below), (λ k e. omega (arith, below k e), omega arith))

pub finished-returns-in-Deep : goal.finished-returns-in-Deep
finished-returns-in-Deep t c =
    let plan = c.args.self.now.plan in
    let o = c.in-Automaton.ensures.opens_its_tree in
    record { says_whether_finished = in-deep c.args.row.now.cells c.args.at (tree_at plan c.args.i) (tree_at plan) c.in-Automaton.states c.state-state.result _ c.child_finished.result o.is c.state-state.ensures.tells_the_state c.in-Deep.is c.child_finished.ensures.says_whether_finished }

pub finished-returns-then-finished : goal.finished-returns-then-finished
finished-returns-then-finished t c =
    let plan = c.args.self.now.plan in
    let o = c.in-Sequence.ensures.opens_its_tree in
    let a = tree_at plan c.from.result in
    let b = tree_at plan c.from-then-finished.result in
    let is : tree_at plan c.args.i ≡ sequence a b = cc in
    record { says_whether_finished = and-on c.finished.result c.begins_finished.result c.if-finished.true ∙ in-first c.args.row.now.cells c.args.at _ a b c.finished.result c.begins_finished.result is c.if-row-at-eq0.true c.finished.ensures.says_whether_finished c.begins_finished.ensures }

pub finished-returns-else-finished : goal.finished-returns-else-finished
finished-returns-else-finished t c =
    let plan = c.args.self.now.plan in
    let o = c.in-Sequence.ensures.opens_its_tree in
    let a = tree_at plan c.from.result in
    let b = tree_at plan c.in-Sequence.second in
    let is : tree_at plan c.args.i ≡ sequence a b = cc in
    record { says_whether_finished = and-off c.finished.result _ c.if-finished.false ∙ in-first c.args.row.now.cells c.args.at _ a b c.finished.result _ is c.if-row-at-eq0.true c.finished.ensures.says_whether_finished refl }

pub finished-returns-else-row-at-eq0 : goal.finished-returns-else-row-at-eq0
finished-returns-else-row-at-eq0 t c =
    let plan = c.args.self.now.plan in
    let o = c.in-Sequence.ensures.opens_its_tree in
    let a = tree_at plan c.in-Sequence.first in
    let b = tree_at plan c.from-else-row-at-eq0.result in
    let is : tree_at plan c.args.i ≡ sequence a b = cc in
    record { says_whether_finished = in-second c.args.row.now.cells c.args.at _ a b _ is c.if-row-at-eq0.false c.finished-else-row-at-eq0.ensures.says_whether_finished }

pub finished-returns-else-row-at-eq0-2 : goal.finished-returns-else-row-at-eq0-2
finished-returns-else-row-at-eq0-2 t c =
    let plan = c.args.self.now.plan in
    let o = c.in-Closure.ensures.opens_its_tree in
    let b = tree_at plan c.from-else-row-at-eq0-2.result in
    let is : tree_at plan c.args.i ≡ closure b = cc in
    record { says_whether_finished = in-closure c.args.row.now.cells c.args.at _ b _ is c.if-row-at-eq0-2.false c.finished-else-row-at-eq0-2.ensures.says_whether_finished }

pub finished-returns-else-row-at-eq0-3 : goal.finished-returns-else-row-at-eq0-3
finished-returns-else-row-at-eq0-3 t c =
    let plan = c.args.self.now.plan in
    let o = c.in-Guard.ensures.opens_its_tree in
    let b = tree_at plan c.from-else-row-at-eq0-3.result in
    let is : tree_at plan c.args.i ≡ guarded c.in-Guard.guard b = cc in
    record { says_whether_finished = in-guard c.args.row.now.cells c.args.at _ b c.in-Guard.guard _ is c.if-row-at-eq0-3.false c.finished-else-row-at-eq0-3.ensures.says_whether_finished }

pub finished-returns-in-1 : goal.finished-returns-in-1
finished-returns-in-1 t c =
    let plan = c.args.self.now.plan in
    let o = c.in-Choice.ensures.opens_its_tree in
    let a = tree_at plan c.from-in-1.result in
    let b = tree_at plan c.in-Choice.right in
    let is : tree_at plan c.args.i ≡ choice a b = cc in
    record { says_whether_finished = in-left c.args.row.now.cells c.args.at _ a b _ is c.in-1.is c.finished-in-1.ensures.says_whether_finished }

pub finished-returns-in_default : goal.finished-returns-in_default
finished-returns-in_default t c =
    let plan = c.args.self.now.plan in
    let o = c.in-Choice.ensures.opens_its_tree in
    let a = tree_at plan c.in-Choice.left in
    let b = tree_at plan c.from-in_default.result in
    let is : tree_at plan c.args.i ≡ choice a b = cc in
    record { says_whether_finished = in-right c.args.row.now.cells c.args.at _ a b _ is (omega arith) (omega arith) c.finished-in_default.ensures.says_whether_finished }

pub finished-returns-then-finished-2 : goal.finished-returns-then-finished-2
finished-returns-then-finished-2 t c =
    let plan = c.args.self.now.plan in
    let o = c.in-Synchronisation.ensures.opens_its_tree in
    let a = tree_at plan c.from-in-Synchronisation.result in
    let b = tree_at plan c.from-then-finished-2.result in
    let is : tree_at plan c.args.i ≡ synchronisation (labels_of c.in-Synchronisation.labels) a b = cc in
    let w : c.width.result ≡ width a = cc in
    let p = c.finished-in-Synchronisation.result in
    let q = c.finished-then-finished-2.result in
    record { says_whether_finished = and-on p q c.if-finished-2.true ∙ in-both c.args.row.now.cells c.args.at _ a b _ p q c.width.result is w c.finished-in-Synchronisation.ensures.says_whether_finished c.finished-then-finished-2.ensures.says_whether_finished }

pub finished-returns-else-finished-2 : goal.finished-returns-else-finished-2
finished-returns-else-finished-2 t c =
    let plan = c.args.self.now.plan in
    let o = c.in-Synchronisation.ensures.opens_its_tree in
    let a = tree_at plan c.from-in-Synchronisation.result in
    let b = tree_at plan c.in-Synchronisation.right in
    let is : tree_at plan c.args.i ≡ synchronisation (labels_of c.in-Synchronisation.labels) a b = cc in
    let p = c.finished-in-Synchronisation.result in
    record { says_whether_finished = and-off p _ c.if-finished-2.false ∙ in-both c.args.row.now.cells c.args.at _ a b _ p _ (width a) is refl c.finished-in-Synchronisation.ensures.says_whether_finished refl }

pub finished-returns-then-is_empty : goal.finished-returns-then-is_empty
finished-returns-then-is_empty t c =
    let plan = c.args.self.now.plan in
    let o = c.in-QuantifiedChoice.ensures.opens_its_tree in
    let values = c.values-else-row-at-eq0-4.result.now in
    let told = c.values-else-row-at-eq0-4.ensures.tells_the_values in
    let b = tree_at plan c.from-then-is_empty.result in
    let is : tree_at plan c.args.i ≡ quantified_choice values b = cc in
    record { says_whether_finished = in-no-room c.args.row.now.cells c.args.at _ b values _ is c.if-is_empty.ensures c.if-row-at-eq0-4.false c.finished-then-is_empty.ensures.says_whether_finished }

pub finished-returns-else-is_empty : goal.finished-returns-else-is_empty
finished-returns-else-is_empty t c =
    let plan = c.args.self.now.plan in
    let o = c.in-QuantifiedChoice.ensures.opens_its_tree in
    let values = c.values-else-row-at-eq0-4.result.now in
    let told = c.values-else-row-at-eq0-4.ensures.tells_the_values in
    let b = tree_at plan c.from-else-is_empty.result in
    let is : tree_at plan c.args.i ≡ quantified_choice values b = cc in
    record { says_whether_finished = in-body c.args.row.now.cells c.args.at _ b values _ is c.if-is_empty.ensures c.if-row-at-eq0-4.false c.finished-else-is_empty.ensures.says_whether_finished }

pub each_finished-finished-requires : goal.each_finished-finished-requires
each_finished-finished-requires t c =
    let room = room-left c.args.values.now c.loop-k.k c.loop-k-test.true (width (tree_at c.args.self.now.plan c.args.body)) in
    let wide = ap (λ (w : ℕ). c.loop-k.k * w) c.width-width.ensures.is_the_width in
    (omega arith, (c.requires.is_node, omega arith))

pub each_finished-returns-then-not-finished : goal.each_finished-returns-then-not-finished
each_finished-returns-then-not-finished t c =
    let tree = tree_at c.args.self.now.plan c.args.body in
    each-off c.args.values.now c.loop-k.k c.loop-k-test.true (λ s. finished tree s) (width tree) c.args.row.now.cells c.args.at c.width-width.result c.finished.result c.width-width.ensures.is_the_width c.finished.ensures.says_whether_finished c.if-not-finished.true
    ∙ sym c.loop-k.invariant.1

pub each_finished-loop-k-preserved : goal.each_finished-loop-k-preserved
each_finished-loop-k-preserved t c =
    let tree = tree_at c.args.self.now.plan c.args.body in
    let room = room-left c.args.values.now c.loop-k.k c.loop-k-test.true (width tree) in (
      omega arith,
      c.loop-k.invariant.1
          ∙ each-on c.args.values.now c.loop-k.k c.loop-k-test.true (λ s. finished tree s) (width tree) c.args.row.now.cells c.args.at c.width-width.result c.finished.result c.width-width.ensures.is_the_width c.finished.ensures.says_whether_finished c.if-not-finished.false,
    )
