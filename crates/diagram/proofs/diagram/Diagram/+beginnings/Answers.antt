-- What a node begins with stands where its children begin.
use Rattle.std.proofs.Common.{arith, ◌≡◌, ℕ, ◌+◌, ◌-◌, ◌<◌, ◌≤◌, length, Option, Some, sym, ap, ◌∙◌}
use Rattle.motions.specs.Framing.{framed}
use Rattle.notation.specs.declared.node.State.{State}
use Rattle.rules.specs.Trees.{Tree, synchronisation}
use Rattle.rules.specs.Cells.{width, initial, tagged}
use Rattle.rules.specs.Growing.{labels_of, child_tree, state_of}
use Rattle.diagram.specs.Plans.{tree_at}
use Rattle.diagram.proofs.Begins.{above_child, child-below, frame-entered, frame-begun, frame-copies, state-room}
use Rattle.diagram.proofs.diagram.Diagram.+beginnings.Goals as goal

pub begin-enter-requires : goal.begin-enter-requires
begin-enter-requires t c =
    let o = c.in-Automaton.ensures.opens_its_tree in
    let states = c.in-Automaton.states in
    let plan = c.args.self.now.plan in
    let child = c.state-child.result.child in
    let state : child ≡ (state_of states states.start).child = ap (λ (s : State). s.child) c.state-child.ensures.tells_the_state in
    let below : (k : ℕ) → child ≡ Some k → k < c.args.i = λ k e. o.below states.start k (sym state ∙ e) in
    let room = state-room (tree_at plan) states states.start in
    let same = ap (λ (k : Option ℕ). width (child_tree (tree_at plan) k)) state in
    let wide = ap width o.is in
    (omega (arith, child-below child c.args.i below), (λ k e. omega (arith, below k e), (omega arith, omega arith)))

pub begin-enter-requires-in-Sequence : goal.begin-enter-requires-in-Sequence
begin-enter-requires-in-Sequence t c =
    let o = c.in-Sequence.ensures.opens_its_tree in
    let wide = ap width o.is in
    (omega arith, (λ k e. let same : c.in-Sequence.first ≡ k = cc in omega arith, (omega arith, omega arith)))

pub begin-returns-in-Synchronisation : goal.begin-returns-in-Synchronisation
begin-returns-in-Synchronisation t c =
    let o = c.in-Synchronisation.ensures.opens_its_tree in
    let plan = c.args.self.now.plan in
    let left = tree_at plan c.from.result in
    let right = tree_at plan c.from-in-Synchronisation.result in
    let is : tree_at plan c.args.i ≡ synchronisation (labels_of c.in-Synchronisation.labels) left right = cc in
    let wide = ap width is in
    let full = c.args.row.full in
    let inside : c.args.at + (width left + width right) ≤ length c.args.row.cells = omega arith in
    let w : c.width-in-Synchronisation.result ≡ width left = cc in
    record {
      begins =
          frame-begun left c.args.row.cells c.begin-begun.result.cells c.begin.result.cells (initial right) c.args.at c.width-in-Synchronisation.result (width right) w inside c.begin-begun.ensures.begins c.begin.ensures.begins
          ∙ sym (ap (λ (u : Tree). framed c.args.row.cells c.args.at (width u) (initial u)) is);
    }

pub begin_each-returns-in-len1-up : goal.begin_each-returns-in-len1-up
begin_each-returns-in-len1-up t c =
    let full = c.args.row.full in
    frame-copies (tree_at c.args.self.now.plan c.args.body) c.args.values.now c.args.row.cells c.begin-begun.result.cells c.begin_each.result.cells c.args.at c.width.result
    c.in-len1-up.len_at_least c.width.ensures.is_the_width (omega (arith, c.requires.is_inside)) c.begin-begun.ensures.begins c.begin_each.ensures

pub enter-begin-requires : goal.enter-begin-requires
enter-begin-requires t c =
    let plan = c.args.self.now.plan in
    let same : c.args.child ≡ Some c.from.result = cc in
    let node = c.requires.is_node c.from.result same in
    let wide : width (child_tree (tree_at plan) c.args.child) ≡ width (tree_at plan c.from.result) = ap (λ (k : Option ℕ). width (child_tree (tree_at plan) k)) same in
    let falls' : above_child c.args.child ≡ c.from.result + 1 = ap above_child same in
    (omega arith, (node, omega arith))

pub enter-returns-in-Some : goal.enter-returns-in-Some
enter-returns-in-Some t c =
    let plan = c.args.self.now.plan in
    let tree = tree_at plan c.from.result in
    let full = c.args.row.full in
    let same : c.args.child ≡ Some c.from.result = cc in
    let is : child_tree (tree_at plan) c.args.child ≡ tree = ap (child_tree (tree_at plan)) same in
    let wide = ap width is in
    record {
      enters =
          frame-entered tree c.args.row.cells c.tagged-clear.result.cells c.begin.result.cells c.args.at c.args.size c.args.tag (omega arith) (omega arith) c.tagged-clear.ensures c.begin.ensures.begins
          ∙ sym (ap (λ (u : Tree). framed c.args.row.cells c.args.at c.args.size (tagged (c.args.size - 1) c.args.tag (initial u))) is);
    }
