use Rattle.std.proofs.Common.{◌≡◌, ℕ, ◌+◌, ◌-◌, Decides, slice_index, length, Bool, List, suc, arith, subst, sym, ap, ◌∙◌, refl, ◌&&◌, true≢false, ◌==◌}
use mathlib.Core.List.{Memᴰ}
use Rattle.ordered.specs.Held.{held, room}
use Rattle.row.specs.declared.row.Row.{Row}
use Rattle.notation.specs.declared.node.Node.TheVariants.{Automaton}
use Rattle.rules.specs.Cells.{initial, tagged, width, finished}
use Rattle.rules.specs.Growing.{labels_of}
use Rattle.motions.specs.Framing.{part_at, framed}
use Rattle.motions.specs.Ways.{Any}
use Rattle.motions.specs.Collecting.{Added, EitherRow, FromEach}
use Rattle.diagram.specs.Valued.{values_of}
use Rattle.diagram.specs.Plans.{tree_at}
use Rattle.answers.specs.Answering.{node_answer}
use Rattle.diagram.specs.Parts.{part_width}
use Rattle.search.specs.Searching.{cells_of, successors, Reached, PartReached, InstancesReached, all_move}
use Rattle.motions.proofs.Adds.{added-none, added-alike, stays-then, added-then}
use Rattle.diagram.proofs.Opens.{opens}
use Rattle.search.proofs.Fires.{state-inside}
use Rattle.search.proofs.Chosen.{StartsFrom, Resumes, BehindTag, bound-behind, starts-past, starts-over, starts-added, resumes-past, resumes-here, choice-starts, choice-resumes}
use Rattle.search.proofs.Automata.{fired-over, childless-added, state-added, state-behind}
use Rattle.search.proofs.Sides.{room-decides, reached-any, any-reached, sides-full, sides-over, sides-added, right-can, sides-can, together-added, apart-added}
use Rattle.search.proofs.Instances.{value-there, value-past, past, past-body, past-bound, past-inside, instance, instance-in-place, none-can, none-moves, none-added, can-both, first-can, still-can, all-can, all-added, all-over, one-added, one-over, each-alone, all-together, no-room, no-value, not-all, values-some, values-none, bound-inside}
use Rattle.search.proofs.Rounds.{early, row-in, after-rounds, next-round, last-round}
use Rattle.search.proofs.search.Search.+collecting.Goals.{quantified_synchronisation-then-is_empty-via-then-is_empty, quantified_synchronisation-then-is_empty-via-else-is_empty+then-not-all_can, sequence-then-tag-eq0, sequence-else-tag-eq0, guard-then-tag-eq0, guard-else-tag-eq0}
use Rattle.diagram.specs.Scopes.{binders_at}
use Rattle.event.specs.declared.event.Event.{Event}
use Rattle.motions.proofs.Anys.{decides-no}
use Rattle.rules.specs.Rules.{in_set}
use Rattle.std.proofs.lemmas.Result.{err_from_is_err_and}
use Rattle.rules.proofs.Widths.{initial-width}
use Rattle.motions.proofs.Frames.{length-part}
use Rattle.search.proofs.Collects.{behind-rows, Start, Resume, sequence-rows, closure-rows, guard-rows, choice-rows, both-true, first-false, guard-answered}
use Rattle.search.proofs.Steps.{still-few, over-1, over-2, over-3, done-2, done-3, done-4}
use Rattle.search.proofs.search.Search.+collecting.Goals as goal

-- src/collecting.rt:301:17

pub all_can-can_move-requires : goal.all_can-can_move-requires
all_can-can_move-requires t c =
    let d = c.args.self.now.diagram.now in
    let x = c.in-Some.x.now in
    let told = c.in-Some.ensures.lookup in
    let some = value-there _ _ c.args.k x c.values.ensures.tells_the_values told.3.0 told.1 in
    let i = instance c.args.body c.bound.result x c.bound.ensures.keeps_the_cells c.bound.ensures.binds in
    let suits = c.bound.ensures.suits_what_is_below (values_of d.plan.values) (binders_at d.binders c.args.part.node) c.args.over c.args.k c.requires.is_bound.suits (omega arith) some in
    (omega arith, instance-in-place d c.args.part c.args.over c.args.body c.bound.result c.args.k x c.requires.is_bound c.requires.are_inside some i suits)

-- src/collecting.rt:291:5
pub all_can-returns-in-None : goal.all_can-returns-in-None
all_can-returns-in-None t c =
    let d = c.args.self.now.diagram.now in
    let a = c.args.self.now.answers.now in
    let none = value-past _ _ c.args.k c.values.ensures.tells_the_values c.in-None.ensures.lookup.3 in
    λ g agrees. none-can d a g c.args.over c.args.body c.args.k c.args.row.now none

-- src/collecting.rt:291:5
pub all_can-returns-then-can_move : goal.all_can-returns-then-can_move
all_can-returns-then-can_move t c =
    let d = c.args.self.now.diagram.now in
    let a = c.args.self.now.answers.now in
    let x = c.in-Some.x.now in
    let told = c.in-Some.ensures.lookup in
    let some = value-there _ _ c.args.k x c.values.ensures.tells_the_values told.3.0 told.1 in
    let i = instance c.args.body c.bound.result x c.bound.ensures.keeps_the_cells c.bound.ensures.binds in
    let next = past-body d c.args.body c.of-next.result c.width.result c.from.result c.from.ensures c.width.ensures.is_the_width c.of-next.ensures.is_the_nodes in
    λ g agrees.
    let first = c.can_move.ensures.decides_whether_there_is_a_successor g agrees in
    subst (λ (u : Bool). Decides (u && c.all_can.result) (Any (all_move d a g c.args.over c.args.body c.args.k c.args.row.now))) c.if-can_move.true
    (can-both d a g c.args.over c.args.body c.args.k x some c.bound.result c.of-next.result i next c.args.row.now c.can_move.result c.all_can.result first (c.all_can.ensures g agrees))

-- src/collecting.rt:291:5
pub all_can-returns-else-can_move : goal.all_can-returns-else-can_move
all_can-returns-else-can_move t c =
    let d = c.args.self.now.diagram.now in
    let a = c.args.self.now.answers.now in
    let x = c.in-Some.x.now in
    let told = c.in-Some.ensures.lookup in
    let some = value-there _ _ c.args.k x c.values.ensures.tells_the_values told.3.0 told.1 in
    let i = instance c.args.body c.bound.result x c.bound.ensures.keeps_the_cells c.bound.ensures.binds in
    let next = past-body d c.args.body c.of-next.result c.width.result c.from.result c.from.ensures c.width.ensures.is_the_width c.of-next.ensures.is_the_nodes in
    λ g agrees.
    let first = c.can_move.ensures.decides_whether_there_is_a_successor g agrees in
    (λ t. absurd (true≢false (sym t ∙ c.if-can_move.false)), λ any. first.1 (first-can d a g c.args.over c.args.body c.args.k x some c.bound.result c.of-next.result i next c.args.row.now any))

-- src/collecting.rt:320:17
pub all_instances_in-collect_movable-requires : goal.all_instances_in-collect_movable-requires
all_instances_in-collect_movable-requires t c =
    let d = c.args.self.now.diagram.now in
    let x = c.args.x in
    let some = c.requires.is_its_value in
    let i = instance c.args.body c.bound.result x c.bound.ensures.keeps_the_cells c.bound.ensures.binds in
    let suits = c.bound.ensures.suits_what_is_below (values_of d.plan.values) (binders_at d.binders c.args.part.node) c.args.over c.args.k c.requires.is_bound.suits (omega arith) some in
    (omega arith, instance-in-place d c.args.part c.args.over c.args.body c.bound.result c.args.k x c.requires.is_bound c.requires.are_inside some i suits)

-- src/collecting.rt:543:9
pub all_instances_in-all_instances_of_each-requires :
    goal.all_instances_in-all_instances_of_each-requires
all_instances_in-all_instances_of_each-requires t c =
    let d = c.args.self.now.diagram.now in
    let next = past-body d c.args.body c.of-next.result c.width.result c.from.result c.from.ensures c.width.ensures.is_the_width c.of-next.ensures.is_the_nodes in
    (omega arith, (past-bound d c.args.part c.args.over c.args.body c.of-next.result next c.requires.is_bound, past-inside d c.args.over c.args.body c.of-next.result c.args.k c.args.x next c.requires.is_its_value c.requires.are_inside))

-- src/collecting.rt:320:17
pub all_instances_in-returns-in_err-collect_movable-clause-adds :
    goal.all_instances_in-returns-in_err-collect_movable-clause-adds
all_instances_in-returns-in_err-collect_movable-clause-adds t c =
    let d = c.args.self.now.diagram.now in
    let a = c.args.self.now.answers.now in
    let x = c.args.x in
    let some = c.requires.is_its_value in
    let i = instance c.args.body c.bound.result x c.bound.ensures.keeps_the_cells c.bound.ensures.binds in
    let lent : room c.over-moved.result ≡ length c.args.places.now = ap (λ (l : List Row). length l) c.over-moved.ensures.lends_these_places in
    let few = c.requires.are_few_enough in
    λ fits g agrees r any.
    early _ c.args.out.now c.args.out.now c.from_residual.result c.from_residual.ensures.0 (all-over d a g c.args.over c.args.body c.args.k x some c.bound.result (past d c.args.body) i refl c.args.row.now c.requires.are_inside c.args.out.now c.over-moved.result (omega arith) c.over-moved.ensures.holds_nothing any (c.in_err-collect_movable.ensures.adds g agrees (omega arith) (first-can d a g c.args.over c.args.body c.args.k x some c.bound.result (past d c.args.body) i refl c.args.row.now any)))

-- src/collecting.rt:307:5
pub all_instances-returns-in-None-clause-adds : goal.all_instances-returns-in-None-clause-adds
all_instances-returns-in-None-clause-adds t c =
    let d = c.args.self.now.diagram.now in
    let a = c.args.self.now.answers.now in
    let none = value-past _ _ c.args.k c.values.ensures.tells_the_values c.in-None.ensures.lookup.3 in
    λ g agrees r any. none-added d a g c.args.over c.args.body c.args.k c.args.row.now none c.args.out.now c.put.new.out c.put.result c.put.ensures.adds

-- src/collecting.rt:307:5
pub all_instances_in-returns-clause-adds :
    goal.all_instances_in-returns-clause-adds
all_instances_in-returns-clause-adds t c =
    let d = c.args.self.now.diagram.now in
    let a = c.args.self.now.answers.now in
    let x = c.args.x in
    let some = c.requires.is_its_value in
    let i = instance c.args.body c.bound.result x c.bound.ensures.keeps_the_cells c.bound.ensures.binds in
    let next = past-body d c.args.body c.of-next.result c.width.result c.from.result c.from.ensures c.width.ensures.is_the_width c.of-next.ensures.is_the_nodes in
    let lent : room c.over-moved.result ≡ length c.args.places.now = ap (λ (l : List Row). length l) c.over-moved.ensures.lends_these_places in
    let few = c.requires.are_few_enough in
    let empty = c.over-moved.ensures.holds_nothing in
    λ fits g agrees r any.
    let first = c.in_ok-collect_movable.ensures.adds g agrees (omega arith) (first-can d a g c.args.over c.args.body c.args.k x some c.bound.result c.of-next.result i next c.args.row.now any) in
    all-added d a g c.args.over c.args.body c.args.k x some c.bound.result c.of-next.result i next c.args.row.now c.requires.are_inside c.args.out.now c.all_instances_of_each.new.out c.over-moved.result c.collect_movable.new.out c.all_instances_of_each.result empty first
    (c.all_instances_of_each.ensures.adds g agrees r (still-can d a g c.args.over c.args.body c.args.k x some c.bound.result c.of-next.result i next c.args.row.now c.requires.are_inside c.over-moved.result c.collect_movable.new.out empty first any))

-- src/collecting.rt:338:13
pub all_instances_of_each-returns-in_err-all_instances-clause-stays :
    goal.all_instances_of_each-returns-in_err-all_instances-clause-stays
all_instances_of_each-returns-in_err-all_instances-clause-stays t c =
    stays-then c.args.out.now c.loop-row.out c.all_instances.new.out c.loop-row.invariant.0 c.all_instances.ensures.stays

-- src/collecting.rt:338:13
pub all_instances_of_each-returns-in_err-all_instances-clause-adds :
    goal.all_instances_of_each-returns-in_err-all_instances-clause-adds
all_instances_of_each-returns-in_err-all_instances-clause-adds t c =
    let stays = c.loop-row.invariant.0 in
    let same = stays.room in
    let inside = row-in (held c.args.rows.now) c.as_slice-row-items.result.now c.as_slice-row-items.ensures.tells_what_is_held c.loop-row.row-index c.row-item.result c.loop-row-test.true c.row-item.is in
    λ g agrees r can.
    early _ c.args.out.now c.all_instances.new.out c.from_residual.result c.from_residual.ensures.0
    (last-round (held c.args.rows.now) c.as_slice-row-items.result.now (λ x y. InstancesReached c.args.self.now.diagram.now c.args.over c.args.body c.args.k x (all_move c.args.self.now.diagram.now c.args.self.now.answers.now g c.args.over c.args.body c.args.k x) y) c.as_slice-row-items.ensures.tells_what_is_held c.loop-row.row-index c.row-item.result c.loop-row-test.true c.row-item.is c.args.out.now c.loop-row.out stays
    (c.loop-row.invariant.1 g agrees r can)
    (c.in_err-all_instances.ensures.adds g agrees (omega arith) (can c.row-item.result inside)))

-- src/collecting.rt:328:5
pub all_instances_of_each-returns-clause-stays : goal.all_instances_of_each-returns-clause-stays
all_instances_of_each-returns-clause-stays t c =
    c.loop-row.invariant.0

-- src/collecting.rt:328:5
pub all_instances_of_each-returns-clause-adds : goal.all_instances_of_each-returns-clause-adds
all_instances_of_each-returns-clause-adds t c =
    λ g agrees r can.
    after-rounds (held c.args.rows.now) c.as_slice-row-items.result.now (λ x y. InstancesReached c.args.self.now.diagram.now c.args.over c.args.body c.args.k x (all_move c.args.self.now.diagram.now c.args.self.now.answers.now g c.args.over c.args.body c.args.k x) y) c.as_slice-row-items.ensures.tells_what_is_held c.loop-row.row-index c.args.out.now c.loop-row.out c.loop-row-test.false
    (c.loop-row.invariant.1 g agrees r can)

-- src/collecting.rt:337:9
pub all_instances_of_each-loop-row-preserved : goal.all_instances_of_each-loop-row-preserved
all_instances_of_each-loop-row-preserved t c =
    let stays = c.loop-row.invariant.0 in
    let same = stays.room in
    let inside = row-in (held c.args.rows.now) c.as_slice-row-items.result.now c.as_slice-row-items.ensures.tells_what_is_held c.loop-row.row-index c.row-item.result c.loop-row-test.true c.row-item.is in (
      stays-then c.args.out.now c.loop-row.out c.all_instances.new.out stays c.in_ok-all_instances.ensures.stays,
      λ g agrees r can.
          next-round (held c.args.rows.now) c.as_slice-row-items.result.now (λ x y. InstancesReached c.args.self.now.diagram.now c.args.over c.args.body c.args.k x (all_move c.args.self.now.diagram.now c.args.self.now.answers.now g c.args.over c.args.body c.args.k x) y) c.as_slice-row-items.ensures.tells_what_is_held c.loop-row.row-index c.row-item.result c.loop-row-test.true c.row-item.is c.args.out.now c.loop-row.out stays
          (c.loop-row.invariant.1 g agrees r can)
          c.all_instances.new.out
          (c.in_ok-all_instances.ensures.adds g agrees (omega arith) (can c.row-item.result inside)),
    )

-- src/collecting.rt:72:9
pub automaton-returns-in_err-fire-clause-adds : goal.automaton-returns-in_err-fire-clause-adds
automaton-returns-in_err-fire-clause-adds t c =
    λ g agrees few. fired-over c.args.self.now.diagram.now c.args.self.now.answers.now g c.args.part c.args.states.now c.args.row.now (opens c.args.self.now.diagram.now.plan c.args.part.node (Automaton c.args.states.now) c.requires.is_this_node)
    c.args.out.now c.fire.new.out c.from_residual.result c.from_residual.ensures.0 (c.in_err-fire.ensures.adds g agrees)

-- src/collecting.rt:73:21
pub automaton-bounds-row-part : goal.automaton-bounds-row-part
automaton-bounds-row-part t c =
    state-inside c.args.self.now.diagram.now c.args.part c.args.states.now c.requires.is_in_place (opens c.args.self.now.diagram.now.plan c.args.part.node (Automaton c.args.states.now) c.requires.is_this_node)

-- src/collecting.rt:76:28
pub automaton-resume-requires : goal.automaton-resume-requires
automaton-resume-requires t c =
    let behind = state-behind c.args.self.now.diagram.now c.args.part c.args.states.now (slice_index c.args.row.now.cells c.args.part.at) c.state.result c.in-Some.child c.of.result
    c.requires.is_in_place c.requires.is_this_node c.state.ensures.tells_the_state c.in-Some.is c.of.ensures.is_the_nodes in
    (omega arith, (c.requires.is_in_place, behind))

-- src/collecting.rt:64:5
pub automaton-returns-in-None-clause-adds : goal.automaton-returns-in-None-clause-adds
automaton-returns-in-None-clause-adds t c =
    λ g agrees few. childless-added c.args.self.now.diagram.now c.args.self.now.answers.now g c.args.part c.args.states.now c.args.row.now (opens c.args.self.now.diagram.now.plan c.args.part.node (Automaton c.args.states.now) c.requires.is_this_node) c.state.result c.state.ensures.tells_the_state c.in-None.is
    c.args.out.now c.fire.new.out (c.in_ok-fire.ensures.adds g agrees)

-- src/collecting.rt:64:5
pub automaton-returns-in-Some-clause-adds : goal.automaton-returns-in-Some-clause-adds
automaton-returns-in-Some-clause-adds t c =
    let stays = c.in_ok-fire.ensures.stays in
    λ g agrees few. state-added c.args.self.now.diagram.now c.args.self.now.answers.now g c.args.part c.args.states.now c.args.row.now (opens c.args.self.now.diagram.now.plan c.args.part.node (Automaton c.args.states.now) c.requires.is_this_node) c.state.result c.state.ensures.tells_the_state c.in-Some.child c.in-Some.is c.of.result c.of.ensures.is_the_nodes
    c.args.out.now c.fire.new.out c.resume.new.out c.resume.result stays
    (c.in_ok-fire.ensures.adds g agrees) (c.resume.ensures.adds g agrees (omega (arith, stays.room)))

-- src/collecting.rt:173:13
pub both_sides-returns-then-room-eq0-clause-adds :
    goal.both_sides-returns-then-room-eq0-clause-adds
both_sides-returns-then-room-eq0-clause-adds t c =
    let d = c.args.self.now.diagram.now in
    let a = c.args.self.now.answers.now in
    λ g agrees r.
    let first = (c.can_move.ensures.decides_whether_there_is_a_successor g agrees).0 c.if-not-can_move.false in
    let second = (c.can_move-else-not-can_move.ensures.decides_whether_there_is_a_successor g agrees).0 c.if-not-can_move-2.false in
    sides-full d a g c.args.part c.args.left c.args.right c.args.row.now c.requires.are_beside c.requires.are_inside c.args.out.now (sym c.room.ensures.counts_the_places ∙ c.if-room-eq0.true) first second

-- src/collecting.rt:228:9
pub both_move_in-returns-in_err-collect_movable-clause-adds :
    goal.both_move_in-returns-in_err-collect_movable-clause-adds
both_move_in-returns-in_err-collect_movable-clause-adds t c =
    let d = c.args.self.now.diagram.now in
    let a = c.args.self.now.answers.now in
    let lent : room c.over-moved.result ≡ length c.args.places.now = ap (λ (l : List Row). length l) c.over-moved.ensures.lends_these_places in
    let few = c.requires.are_few_enough in
    λ fits g agrees r can.
    early _ c.args.out.now c.args.out.now c.from_residual.result c.from_residual.ensures.0
    (sides-over d a g c.args.part c.args.left c.args.right c.args.row.now c.requires.are_beside c.requires.are_inside c.args.out.now c.over-moved.result (omega arith) c.over-moved.ensures.holds_nothing can.1 (c.in_err-collect_movable.ensures.adds g agrees (omega arith) can.0))

-- src/collecting.rt:228:9
pub both_move_in-returns-clause-adds : goal.both_move_in-returns-clause-adds
both_move_in-returns-clause-adds t c =
    let d = c.args.self.now.diagram.now in
    let a = c.args.self.now.answers.now in
    let lent : room c.over-moved.result ≡ length c.args.places.now = ap (λ (l : List Row). length l) c.over-moved.ensures.lends_these_places in
    let few = c.requires.are_few_enough in
    let empty = c.over-moved.ensures.holds_nothing in
    let told = c.as_slice.ensures.tells_what_is_held in
    λ fits g agrees r can.
    let first = c.in_ok-collect_movable.ensures.adds g agrees (omega arith) can.0 in
    let still = right-can d a g c.args.part c.args.left c.args.right c.args.row.now c.requires.are_beside c.requires.are_inside c.over-moved.result c.collect_movable.new.out empty first can.1 in
    sides-added d a g c.args.part c.args.left c.args.right c.args.row.now c.requires.are_beside c.requires.are_inside c.args.out.now c.each_movable.new.out c.over-moved.result c.collect_movable.new.out c.each_movable.result empty first
    (subst (λ (l : List Row). Added (λ y. FromEach l (λ x z. Reached d a g c.args.right x z) y) c.args.out.now c.each_movable.new.out c.each_movable.result) told
    (c.each_movable.ensures.adds g agrees r (λ y i. still y (subst (λ (l : List Row). Memᴰ y l) told i))))

-- src/collecting.rt:161:5
pub both_sides-returns-clause-adds : goal.both_sides-returns-clause-adds
both_sides-returns-clause-adds t c =
    λ g agrees r.
    let first = (c.can_move.ensures.decides_whether_there_is_a_successor g agrees).0 c.if-not-can_move.false in
    let second = (c.can_move-else-not-can_move.ensures.decides_whether_there_is_a_successor g agrees).0 c.if-not-can_move-2.false in
    c.both_move.ensures.adds g agrees r (first, second)

-- src/collecting.rt:398:5
pub can_move-returns : goal.can_move-returns
can_move-returns t c =
    let d = c.args.self.now.diagram.now in
    let a = c.args.self.now.answers.now in
    let lent : room c.over.result ≡ 0 = ap (λ (l : List Row). length l) c.over.ensures.lends_these_places in
    record {
      decides_whether_there_is_a_successor = λ g agrees.
          room-decides (Reached d a g c.args.part c.args.row.now) (successors d a g c.args.part c.args.row.now) c.over.result c.collect.new.out c.collect.result c.is_err.result
          c.is_err.ensures.value lent c.over.ensures.holds_nothing c.collect.ensures.stays (c.collect.ensures.adds_the_successors g agrees (omega arith))
          (reached-any d a g c.args.part c.args.row.now c.requires.is_in_place.is_inside) (any-reached d a g c.args.part c.args.row.now);
    }

-- src/collecting.rt:142:9
pub choice-returns-in_err-start-clause-adds : goal.choice-returns-in_err-start-clause-adds
choice-returns-in_err-start-clause-adds t c g agrees few =
    let d = c.args.self.now.diagram.now in
    let a = c.args.self.now.answers.now in
    let p = c.args.part in
    let row = c.args.row.now in
    let o = c.args.out.now in
    let X1 : Row → Type 0 = λ y. PartReached d p row (Start d a g p row (slice_index row.cells p.at == 0) 1 c.args.left) y in
    let X2 : Row → Type 0 = λ y. PartReached d p row (Start d a g p row (slice_index row.cells p.at == 0) 2 c.args.right) y in
    let X3 : Row → Type 0 = λ y. PartReached d p row (Resume d a g p row (slice_index row.cells p.at == 1) 1 c.args.left) y in
    let X4 : Row → Type 0 = λ y. PartReached d p row (Resume d a g p row (slice_index row.cells p.at == 2) 2 c.args.right) y in
    let rows = choice-rows d a g p row c.args.left c.args.right c.requires.is_choice c.requires.left_is_behind c.requires.right_is_behind in
    let q = err_from_is_err_and c.from_residual.result c.from_residual.ensures.1 in
    over-1 (Reached d a g p row) X1 (EitherRow X2 (EitherRow X3 X4)) rows o c.start.new.out q.0 _ q.1 (c.in_err-start.ensures.adds g agrees few)

-- src/collecting.rt:143:9
pub choice-returns-in_err-start-2-clause-adds : goal.choice-returns-in_err-start-2-clause-adds
choice-returns-in_err-start-2-clause-adds t c g agrees few =
    let d = c.args.self.now.diagram.now in
    let a = c.args.self.now.answers.now in
    let p = c.args.part in
    let row = c.args.row.now in
    let o = c.args.out.now in
    let X1 : Row → Type 0 = λ y. PartReached d p row (Start d a g p row (slice_index row.cells p.at == 0) 1 c.args.left) y in
    let X2 : Row → Type 0 = λ y. PartReached d p row (Start d a g p row (slice_index row.cells p.at == 0) 2 c.args.right) y in
    let X3 : Row → Type 0 = λ y. PartReached d p row (Resume d a g p row (slice_index row.cells p.at == 1) 1 c.args.left) y in
    let X4 : Row → Type 0 = λ y. PartReached d p row (Resume d a g p row (slice_index row.cells p.at == 2) 2 c.args.right) y in
    let rows = choice-rows d a g p row c.args.left c.args.right c.requires.is_choice c.requires.left_is_behind c.requires.right_is_behind in
    let s = c.in_ok-start.ensures in
    let q = err_from_is_err_and c.from_residual-in_err-start-2.result c.from_residual-in_err-start-2.ensures.1 in
    over-2 (Reached d a g p row) X1 X2 (EitherRow X3 X4) rows o c.start.new.out c.start-2.new.out q.0 _ q.1 s.stays (s.adds g agrees few) (c.in_err-start-2.ensures.adds g agrees (still-few o c.start.new.out 128 s.stays few))

-- src/collecting.rt:144:9
pub choice-returns-in_err-resume-clause-adds : goal.choice-returns-in_err-resume-clause-adds
choice-returns-in_err-resume-clause-adds t c g agrees few =
    let d = c.args.self.now.diagram.now in
    let a = c.args.self.now.answers.now in
    let p = c.args.part in
    let row = c.args.row.now in
    let o = c.args.out.now in
    let X1 : Row → Type 0 = λ y. PartReached d p row (Start d a g p row (slice_index row.cells p.at == 0) 1 c.args.left) y in
    let X2 : Row → Type 0 = λ y. PartReached d p row (Start d a g p row (slice_index row.cells p.at == 0) 2 c.args.right) y in
    let X3 : Row → Type 0 = λ y. PartReached d p row (Resume d a g p row (slice_index row.cells p.at == 1) 1 c.args.left) y in
    let X4 : Row → Type 0 = λ y. PartReached d p row (Resume d a g p row (slice_index row.cells p.at == 2) 2 c.args.right) y in
    let rows = choice-rows d a g p row c.args.left c.args.right c.requires.is_choice c.requires.left_is_behind c.requires.right_is_behind in
    let s = c.in_ok-start.ensures in
    let u = c.in_ok-start-2.ensures in
    let few1 = still-few o c.start.new.out 128 s.stays few in
    let q = err_from_is_err_and c.from_residual-in_err-resume.result c.from_residual-in_err-resume.ensures.1 in
    over-3 (Reached d a g p row) X1 X2 X3 X4 rows o c.start.new.out c.start-2.new.out c.resume.new.out q.0 _ q.1 s.stays u.stays (s.adds g agrees few) (u.adds g agrees few1)
    (c.in_err-resume.ensures.adds g agrees (still-few c.start.new.out c.start-2.new.out 128 u.stays few1))

-- src/collecting.rt:131:5
pub choice-returns-clause-adds : goal.choice-returns-clause-adds
choice-returns-clause-adds t c g agrees few =
    let d = c.args.self.now.diagram.now in
    let a = c.args.self.now.answers.now in
    let p = c.args.part in
    let row = c.args.row.now in
    let o = c.args.out.now in
    let X1 : Row → Type 0 = λ y. PartReached d p row (Start d a g p row (slice_index row.cells p.at == 0) 1 c.args.left) y in
    let X2 : Row → Type 0 = λ y. PartReached d p row (Start d a g p row (slice_index row.cells p.at == 0) 2 c.args.right) y in
    let X3 : Row → Type 0 = λ y. PartReached d p row (Resume d a g p row (slice_index row.cells p.at == 1) 1 c.args.left) y in
    let X4 : Row → Type 0 = λ y. PartReached d p row (Resume d a g p row (slice_index row.cells p.at == 2) 2 c.args.right) y in
    let rows = choice-rows d a g p row c.args.left c.args.right c.requires.is_choice c.requires.left_is_behind c.requires.right_is_behind in
    let s = c.in_ok-start.ensures in
    let u = c.in_ok-start-2.ensures in
    let w = c.in_ok-resume.ensures in
    let few1 = still-few o c.start.new.out 128 s.stays few in
    let few2 = still-few c.start.new.out c.start-2.new.out 128 u.stays few1 in
    let few3 = still-few c.start-2.new.out c.resume.new.out 128 w.stays few2 in
    done-4 (Reached d a g p row) X1 X2 X3 X4 rows o c.start.new.out c.start-2.new.out c.resume.new.out c.resume-2.new.out c.resume-2.result s.stays u.stays w.stays (s.adds g agrees few) (u.adds g agrees few1) (w.adds g agrees few2) (c.resume-2.ensures.adds g agrees few3)

-- src/collecting.rt:243:19
pub chosen_resumes-bounds-row-part : goal.chosen_resumes-bounds-row-part
chosen_resumes-bounds-row-part t c =
    omega (arith, c.requires.is_in_place.is_inside, c.requires.has_a_tag)

-- src/collecting.rt:249:24
pub chosen_resumes-resume-requires : goal.chosen_resumes-resume-requires
chosen_resumes-resume-requires t c =
    let get = value-there _ c.values.result.now c.in-Some.index c.in-Some-get.x.now c.values.ensures.tells_the_values c.in-Some-get.ensures.lookup.3.0 c.in-Some-get.ensures.lookup.1 in
    let behind = bound-behind c.args.self.now.diagram.now c.args.part c.args.over c.args.body c.bound.result c.in-Some.index c.in-Some-get.x.now (c.in-Some.index + 1)
    c.requires.is_in_place c.requires.is_bound c.requires.is_behind (c.requires.is_narrower c.in-Some.index c.in-Some-get.x.now get) c.bound.ensures.keeps_the_cells c.bound.ensures.suits_what_is_below (omega arith) get in
    (omega arith, (c.requires.is_in_place, behind))

-- src/collecting.rt:233:5
pub chosen_resumes-returns-in-None-clause-adds : goal.chosen_resumes-returns-in-None-clause-adds
chosen_resumes-returns-in-None-clause-adds t c =
    let tag : slice_index c.args.row.now.cells c.args.part.at ≡ suc c.in-Some.index = omega (arith, c.in-Some.ensures, c.from.ensures) in
    let past = value-past _ c.values.result.now c.in-Some.index c.values.ensures.tells_the_values c.in-None.ensures.lookup.3 in
    λ g agrees few. added-none _ c.args.out.now (resumes-past c.args.self.now.diagram.now c.args.self.now.answers.now g c.args.part c.args.over c.args.body c.args.row.now c.in-Some.index tag past)

-- src/collecting.rt:233:5
pub chosen_resumes-returns-in-Some-get-clause-adds :
    goal.chosen_resumes-returns-in-Some-get-clause-adds
chosen_resumes-returns-in-Some-get-clause-adds t c =
    let get = value-there _ c.values.result.now c.in-Some.index c.in-Some-get.x.now c.values.ensures.tells_the_values c.in-Some-get.ensures.lookup.3.0 c.in-Some-get.ensures.lookup.1 in
    let tag : slice_index c.args.row.now.cells c.args.part.at ≡ suc c.in-Some.index = omega (arith, c.in-Some.ensures, c.from.ensures) in
    λ g agrees few. added-alike (BehindTag c.args.self.now.diagram.now c.args.part (slice_index c.args.row.now.cells c.args.part.at) (successors c.args.self.now.diagram.now c.args.self.now.answers.now g c.bound.result c.args.row.now) c.args.row.now) (Resumes c.args.self.now.diagram.now c.args.self.now.answers.now g c.args.part c.args.over c.args.body c.args.row.now)
    c.args.out.now c.resume.new.out c.resume.result
    (resumes-here c.args.self.now.diagram.now c.args.self.now.answers.now g c.args.part c.args.over c.args.body c.args.row.now c.bound.result c.in-Some.index c.in-Some-get.x.now c.bound.ensures.keeps_the_cells c.bound.ensures.binds get tag)
    (c.resume.ensures.adds g agrees few)

-- src/collecting.rt:109:9
pub closure-returns-in_err-start-clause-adds : goal.closure-returns-in_err-start-clause-adds
closure-returns-in_err-start-clause-adds t c g agrees few =
    let d = c.args.self.now.diagram.now in
    let a = c.args.self.now.answers.now in
    let p = c.args.part in
    let row = c.args.row.now in
    let o = c.args.out.now in
    let done = c.finished-done.result in
    let X1 : Row → Type 0 = λ y. PartReached d p row (Start d a g p row done 1 c.args.body) y in
    let X2 : Row → Type 0 = λ y. PartReached d p row (Resume d a g p row (slice_index row.cells p.at == 1) 1 c.args.body) y in
    let rows = closure-rows d a g p row c.args.body done c.requires.is_closure c.requires.body_is_behind
    (sym (c.finished-done.ensures.says_whether_finished ∙ ap (λ (n : ℕ). finished (tree_at d.plan n) (part_at (width (tree_at d.plan n)) row.cells p.at)) c.from.ensures)) in
    let q = err_from_is_err_and c.from_residual.result c.from_residual.ensures.1 in
    over-1 (Reached d a g p row) X1 X2 rows o c.start.new.out q.0 _ q.1 (c.in_err-start.ensures.adds g agrees few)

-- src/collecting.rt:99:5
pub closure-returns-clause-adds : goal.closure-returns-clause-adds
closure-returns-clause-adds t c g agrees few =
    let d = c.args.self.now.diagram.now in
    let a = c.args.self.now.answers.now in
    let p = c.args.part in
    let row = c.args.row.now in
    let o = c.args.out.now in
    let done = c.finished-done.result in
    let X1 : Row → Type 0 = λ y. PartReached d p row (Start d a g p row done 1 c.args.body) y in
    let X2 : Row → Type 0 = λ y. PartReached d p row (Resume d a g p row (slice_index row.cells p.at == 1) 1 c.args.body) y in
    let rows = closure-rows d a g p row c.args.body done c.requires.is_closure c.requires.body_is_behind
    (sym (c.finished-done.ensures.says_whether_finished ∙ ap (λ (n : ℕ). finished (tree_at d.plan n) (part_at (width (tree_at d.plan n)) row.cells p.at)) c.from.ensures)) in
    let s = c.in_ok-start.ensures in
    done-2 (Reached d a g p row) X1 X2 rows o c.start.new.out c.resume.new.out c.resume.result s.stays (s.adds g agrees few) (c.resume.ensures.adds g agrees (still-few o c.start.new.out 128 s.stays few))

-- src/collecting.rt:207:13
pub each_movable-returns-in_err-collect_movable-clause-stays : goal.each_movable-returns-in_err-collect_movable-clause-stays
each_movable-returns-in_err-collect_movable-clause-stays t c =
    stays-then c.args.out.now c.loop-row.out c.collect_movable.new.out c.loop-row.invariant.0 c.collect_movable.ensures.stays

-- src/collecting.rt:207:13
pub each_movable-returns-in_err-collect_movable-clause-adds :
    goal.each_movable-returns-in_err-collect_movable-clause-adds
each_movable-returns-in_err-collect_movable-clause-adds t c =
    let stays = c.loop-row.invariant.0 in
    let same = stays.room in
    let inside = row-in c.args.rows.now c.args.rows.now refl c.loop-row.row-index c.row-item.result c.loop-row-test.true c.row-item.is in
    λ g agrees r can.
    early _ c.args.out.now c.collect_movable.new.out c.from_residual.result c.from_residual.ensures.0
    (last-round c.args.rows.now c.args.rows.now (λ x y. Reached c.args.self.now.diagram.now c.args.self.now.answers.now g c.args.part x y) refl c.loop-row.row-index c.row-item.result c.loop-row-test.true c.row-item.is c.args.out.now c.loop-row.out stays
    (c.loop-row.invariant.1 g agrees r can)
    (c.in_err-collect_movable.ensures.adds g agrees (omega arith) (can c.row-item.result inside)))

-- src/collecting.rt:199:5
pub each_movable-returns-clause-stays : goal.each_movable-returns-clause-stays
each_movable-returns-clause-stays t c =
    c.loop-row.invariant.0

-- src/collecting.rt:199:5
pub each_movable-returns-clause-adds :
    goal.each_movable-returns-clause-adds
each_movable-returns-clause-adds t c =
    λ g agrees r can.
    after-rounds c.args.rows.now c.args.rows.now (λ x y. Reached c.args.self.now.diagram.now c.args.self.now.answers.now g c.args.part x y) refl c.loop-row.row-index c.args.out.now c.loop-row.out c.loop-row-test.false
    (c.loop-row.invariant.1 g agrees r can)

-- src/collecting.rt:206:9
pub each_movable-loop-row-preserved : goal.each_movable-loop-row-preserved
each_movable-loop-row-preserved t c =
    let stays = c.loop-row.invariant.0 in
    let same = stays.room in
    let inside = row-in c.args.rows.now c.args.rows.now refl c.loop-row.row-index c.row-item.result c.loop-row-test.true c.row-item.is in (
      stays-then c.args.out.now c.loop-row.out c.collect_movable.new.out stays c.in_ok-collect_movable.ensures.stays,
      λ g agrees r can.
          next-round c.args.rows.now c.args.rows.now (λ x y. Reached c.args.self.now.diagram.now c.args.self.now.answers.now g c.args.part x y) refl c.loop-row.row-index c.row-item.result c.loop-row-test.true c.row-item.is c.args.out.now c.loop-row.out stays
          (c.loop-row.invariant.1 g agrees r can)
          c.collect_movable.new.out
          (c.in_ok-collect_movable.ensures.adds g agrees (omega arith) (can c.row-item.result inside)),
    )

-- src/collecting.rt:149:5
pub either_side-returns-clause-adds : goal.either_side-returns-clause-adds
either_side-returns-clause-adds t c =
    let d = c.args.self.now.diagram.now in
    let a = c.args.self.now.answers.now in
    let same = c.collect.ensures.stays.room in
    λ g agrees r.
    added-then (Reached d a g c.args.left c.args.row.now) (Reached d a g c.args.right c.args.row.now) c.args.out.now c.collect.new.out c.collect-2.new.out c.collect-2.result
    c.collect.ensures.stays (c.in_ok-collect.ensures.adds_the_successors g agrees r) (c.collect-2.ensures.adds_the_successors g agrees (omega arith))

-- src/collecting.rt:126:9
pub guard-returns-in_err-start-clause-adds : goal.guard-returns-in_err-start-clause-adds
guard-returns-in_err-start-clause-adds t c g agrees few =
    let d = c.args.self.now.diagram.now in
    let a = c.args.self.now.answers.now in
    let p = c.args.part in
    let row = c.args.row.now in
    let o = c.args.out.now in
    let holds = c.if-tag-eq0.holds in
    let X1 : Row → Type 0 = λ y. PartReached d p row (Start d a g p row holds 1 c.args.body) y in
    let X2 : Row → Type 0 = λ y. PartReached d p row (Resume d a g p row (slice_index row.cells p.at == 1) 1 c.args.body) y in
    let is : slice_index row.cells p.at == 0 && g c.args.number p.scope.variables ≡ holds = elim c.if-tag-eq0.branch [
      | guard-then-tag-eq0 w ↦ both-true (slice_index row.cells p.at) _ _ w.if-tag-eq0.true (w.holds-is ∙ w.of_node-holds.ensures.tells_the_answer ∙ ap (λ (n : ℕ). node_answer a n p.scope.outer p.scope.inner) w.from.ensures ∙ guard-answered d a g p c.args.number c.args.body.node agrees c.requires.is_this_node c.requires.is_in_place.suits)
      | guard-else-tag-eq0 w ↦ first-false (slice_index row.cells p.at) _ _ w.if-tag-eq0.false w.holds-is
    ] in
    let rows = guard-rows d a g p row c.args.number c.args.body holds c.requires.is_guarded c.requires.body_is_behind is in
    let q = err_from_is_err_and c.from_residual.result c.from_residual.ensures.1 in
    over-1 (Reached d a g p row) X1 X2 rows o c.start.new.out q.0 _ q.1 (c.in_err-start.ensures.adds g agrees few)

-- src/collecting.rt:114:5
pub guard-returns-clause-adds : goal.guard-returns-clause-adds
guard-returns-clause-adds t c g agrees few =
    let d = c.args.self.now.diagram.now in
    let a = c.args.self.now.answers.now in
    let p = c.args.part in
    let row = c.args.row.now in
    let o = c.args.out.now in
    let holds = c.if-tag-eq0.holds in
    let X1 : Row → Type 0 = λ y. PartReached d p row (Start d a g p row holds 1 c.args.body) y in
    let X2 : Row → Type 0 = λ y. PartReached d p row (Resume d a g p row (slice_index row.cells p.at == 1) 1 c.args.body) y in
    let is : slice_index row.cells p.at == 0 && g c.args.number p.scope.variables ≡ holds = elim c.if-tag-eq0.branch [
      | guard-then-tag-eq0 w ↦ both-true (slice_index row.cells p.at) _ _ w.if-tag-eq0.true (w.holds-is ∙ w.of_node-holds.ensures.tells_the_answer ∙ ap (λ (n : ℕ). node_answer a n p.scope.outer p.scope.inner) w.from.ensures ∙ guard-answered d a g p c.args.number c.args.body.node agrees c.requires.is_this_node c.requires.is_in_place.suits)
      | guard-else-tag-eq0 w ↦ first-false (slice_index row.cells p.at) _ _ w.if-tag-eq0.false w.holds-is
    ] in
    let rows = guard-rows d a g p row c.args.number c.args.body holds c.requires.is_guarded c.requires.body_is_behind is in
    let s = c.in_ok-start.ensures in
    done-2 (Reached d a g p row) X1 X2 rows o c.start.new.out c.resume.new.out c.resume.result s.stays (s.adds g agrees few) (c.resume.ensures.adds g agrees (still-few o c.start.new.out 128 s.stays few))

-- src/collecting.rt:1:1
pub movable_quantified_synchronisation-returns-then-in_set-clause-adds :
    goal.movable_quantified_synchronisation-returns-then-in_set-clause-adds
movable_quantified_synchronisation-returns-then-in_set-clause-adds t c =
    let d = c.args.self.now.diagram.now in
    let a = c.args.self.now.answers.now in
    let asked = ap (λ (e : Event). in_set e.label c.args.labels.now.items) (sym c.event.ensures.is_the_event) ∙ sym c.in_set.ensures in
    λ g agrees r any.
    let can = all-can d a g c.args.over c.args.part c.args.body (labels_of c.args.labels.now) c.args.row.now c.requires.is_bound.same_scope c.requires.is_first c.requires.is_quantified_synchronisation (asked ∙ c.if-in_set.true) any in
    all-together d a g c.args.over c.args.part c.args.body (labels_of c.args.labels.now) c.args.row.now c.requires.is_bound.same_scope c.requires.is_first c.requires.is_quantified_synchronisation (asked ∙ c.if-in_set.true) c.args.out.now c.all_instances.new.out c.all_instances.result can.0 (c.all_instances.ensures.adds g agrees r can.1)

-- src/collecting.rt:1:1
pub movable_quantified_synchronisation-returns-else-in_set-clause-adds :
    goal.movable_quantified_synchronisation-returns-else-in_set-clause-adds
movable_quantified_synchronisation-returns-else-in_set-clause-adds t c =
    let d = c.args.self.now.diagram.now in
    let a = c.args.self.now.answers.now in
    let asked = ap (λ (e : Event). in_set e.label c.args.labels.now.items) (sym c.event.ensures.is_the_event) ∙ sym c.in_set.ensures in
    λ g agrees r any.
    each-alone d a g c.args.over c.args.part c.args.body (labels_of c.args.labels.now) c.args.row.now c.requires.is_bound.same_scope c.requires.is_first c.requires.is_quantified_synchronisation c.args.out.now c.one_instance.new.out c.one_instance.result (asked ∙ c.if-in_set.false) (c.one_instance.ensures.adds g agrees r)

-- src/collecting.rt:1:1
pub movable_synchronisation-returns-then-in_set-clause-adds :
    goal.movable_synchronisation-returns-then-in_set-clause-adds
movable_synchronisation-returns-then-in_set-clause-adds t c =
    let d = c.args.self.now.diagram.now in
    let a = c.args.self.now.answers.now in
    let asked = ap (λ (e : Event). in_set e.label c.args.labels.now.items) (sym c.event.ensures.is_the_event) ∙ sym c.in_set.ensures in
    λ g agrees r any.
    together-added d a g c.args.part c.args.left c.args.right c.args.row.now c.requires.are_beside (labels_of c.args.labels.now) c.requires.is_in_place.is_inside c.requires.is_synchronisation c.args.out.now c.both_move.new.out c.both_move.result (asked ∙ c.if-in_set.true)
    (c.both_move.ensures.adds g agrees r (sides-can d a g c.args.part c.args.left c.args.right c.args.row.now c.requires.are_beside (labels_of c.args.labels.now) c.requires.is_in_place.is_inside c.requires.is_synchronisation (asked ∙ c.if-in_set.true) any))

-- src/collecting.rt:1:1
pub movable_synchronisation-returns-else-in_set-clause-adds :
    goal.movable_synchronisation-returns-else-in_set-clause-adds
movable_synchronisation-returns-else-in_set-clause-adds t c =
    let d = c.args.self.now.diagram.now in
    let a = c.args.self.now.answers.now in
    let asked = ap (λ (e : Event). in_set e.label c.args.labels.now.items) (sym c.event.ensures.is_the_event) ∙ sym c.in_set.ensures in
    λ g agrees r any.
    apart-added d a g c.args.part c.args.left c.args.right c.args.row.now c.requires.are_beside (labels_of c.args.labels.now) c.requires.is_in_place.is_inside c.requires.is_synchronisation c.args.out.now c.either_side.new.out c.either_side.result (asked ∙ c.if-in_set.false) (c.either_side.ensures.adds g agrees r)

-- src/collecting.rt:283:17
pub one_instance-collect-requires : goal.one_instance-collect-requires
one_instance-collect-requires t c =
    let d = c.args.self.now.diagram.now in
    let x = c.in-Some.x.now in
    let told = c.in-Some.ensures.lookup in
    let some = value-there _ _ c.args.k x c.values.ensures.tells_the_values told.3.0 told.1 in
    let i = instance c.args.body c.bound.result x c.bound.ensures.keeps_the_cells c.bound.ensures.binds in
    let suits = c.bound.ensures.suits_what_is_below (values_of d.plan.values) (binders_at d.binders c.args.part.node) c.args.over c.args.k c.requires.is_bound.suits (omega arith) some in
    (omega arith, instance-in-place d c.args.part c.args.over c.args.body c.bound.result c.args.k x c.requires.is_bound c.requires.are_inside some i suits)

-- src/collecting.rt:283:17
pub one_instance-returns-in_err-collect-in-Some-clause-adds :
    goal.one_instance-returns-in_err-collect-in-Some-clause-adds
one_instance-returns-in_err-collect-in-Some-clause-adds t c =
    let d = c.args.self.now.diagram.now in
    let a = c.args.self.now.answers.now in
    let x = c.in-Some.x.now in
    let told = c.in-Some.ensures.lookup in
    let some = value-there _ _ c.args.k x c.values.ensures.tells_the_values told.3.0 told.1 in
    let i = instance c.args.body c.bound.result x c.bound.ensures.keeps_the_cells c.bound.ensures.binds in
    λ g agrees r.
    early _ c.args.out.now c.collect.new.out c.from_residual.result c.from_residual.ensures.0 (one-over d a g c.args.over c.args.body c.args.k x some c.bound.result (past d c.args.body) i refl c.args.row.now c.requires.are_inside c.args.out.now (c.in_err-collect-in-Some.ensures.adds_the_successors g agrees r))

-- src/collecting.rt:272:5
pub one_instance-returns-in-None-clause-adds : goal.one_instance-returns-in-None-clause-adds
one_instance-returns-in-None-clause-adds t c =
    let d = c.args.self.now.diagram.now in
    let a = c.args.self.now.answers.now in
    let none = value-past _ _ c.args.k c.values.ensures.tells_the_values c.in-None.ensures.lookup.3 in
    λ g agrees r. none-moves d a g c.args.over c.args.body c.args.k c.args.row.now none c.args.out.now

-- src/collecting.rt:272:5
pub one_instance-returns-in_ok-collect-in-Some-clause-adds :
    goal.one_instance-returns-in_ok-collect-in-Some-clause-adds
one_instance-returns-in_ok-collect-in-Some-clause-adds t c =
    let d = c.args.self.now.diagram.now in
    let a = c.args.self.now.answers.now in
    let x = c.in-Some.x.now in
    let told = c.in-Some.ensures.lookup in
    let some = value-there _ _ c.args.k x c.values.ensures.tells_the_values told.3.0 told.1 in
    let i = instance c.args.body c.bound.result x c.bound.ensures.keeps_the_cells c.bound.ensures.binds in
    let next = past-body d c.args.body c.of-next.result c.width.result c.from.result c.from.ensures c.width.ensures.is_the_width c.of-next.ensures.is_the_nodes in
    λ g agrees r.
    let stays = c.in_ok-collect-in-Some.ensures.stays in
    let same = stays.room in
    one-added d a g c.args.over c.args.body c.args.k x some c.bound.result c.of-next.result i next c.args.row.now c.requires.are_inside c.args.out.now c.collect.new.out c.one_instance.new.out c.one_instance.result stays (c.in_ok-collect-in-Some.ensures.adds_the_successors g agrees r) (c.one_instance.ensures.adds g agrees (omega arith))

-- src/collecting.rt:254:5
pub quantified_choice-returns-then-row-part-eq0-clause-adds :
    goal.quantified_choice-returns-then-row-part-eq0-clause-adds
quantified_choice-returns-then-row-part-eq0-clause-adds t c =
    λ g agrees few. added-alike (StartsFrom c.args.self.now.diagram.now c.args.self.now.answers.now g c.args.part c.args.over c.args.body c.args.row.now 0) (Reached c.args.self.now.diagram.now c.args.self.now.answers.now g c.args.part c.args.row.now)
    c.args.out.now c.some_start.new.out c.some_start.result
    (choice-starts c.args.self.now.diagram.now c.args.self.now.answers.now g c.args.part c.args.over c.args.body c.args.row.now c.requires.is_quantified_choice c.requires.is_bound.same_scope c.if-row-part-eq0.true)
    (c.some_start.ensures.adds g agrees few)

-- src/collecting.rt:254:5
pub quantified_choice-returns-else-row-part-eq0-clause-adds :
    goal.quantified_choice-returns-else-row-part-eq0-clause-adds
quantified_choice-returns-else-row-part-eq0-clause-adds t c =
    λ g agrees few. added-alike (Resumes c.args.self.now.diagram.now c.args.self.now.answers.now g c.args.part c.args.over c.args.body c.args.row.now) (Reached c.args.self.now.diagram.now c.args.self.now.answers.now g c.args.part c.args.row.now)
    c.args.out.now c.chosen_resumes.new.out c.chosen_resumes.result
    (choice-resumes c.args.self.now.diagram.now c.args.self.now.answers.now g c.args.part c.args.over c.args.body c.args.row.now c.requires.is_quantified_choice c.requires.is_bound.same_scope c.if-row-part-eq0.false c.requires.is_behind)
    (c.chosen_resumes.ensures.adds g agrees few)

-- src/collecting.rt:355:13
pub quantified_synchronisation-returns-then-not-in_set-clause-adds :
    goal.quantified_synchronisation-returns-then-not-in_set-clause-adds
quantified_synchronisation-returns-then-not-in_set-clause-adds t c =
    let d = c.args.self.now.diagram.now in
    let a = c.args.self.now.answers.now in
    let asked = ap (λ (e : Event). in_set e.label c.args.labels.now.items) (sym c.event.ensures.is_the_event) ∙ sym c.in_set.ensures in
    λ g agrees r.
    each-alone d a g c.args.over c.args.part c.args.body (labels_of c.args.labels.now) c.args.row.now c.requires.is_bound.same_scope c.requires.is_first c.requires.is_quantified_synchronisation c.args.out.now c.one_instance.new.out c.one_instance.result (asked ∙ c.if-not-in_set.true) (c.one_instance.ensures.adds g agrees r)

-- src/collecting.rt:358:13
pub quantified_synchronisation-returns-then-is_empty-clause-adds :
    goal.quantified_synchronisation-returns-then-is_empty-clause-adds
quantified_synchronisation-returns-then-is_empty-clause-adds t c =
    let d = c.args.self.now.diagram.now in
    let a = c.args.self.now.answers.now in
    let asked = ap (λ (e : Event). in_set e.label c.args.labels.now.items) (sym c.event.ensures.is_the_event) ∙ sym c.in_set.ensures in
    λ g agrees r.
    elim c.then-is_empty.branch [
      | quantified_synchronisation-then-is_empty-via-then-is_empty w ↦
          no-value d a g c.args.over c.args.part c.args.body (labels_of c.args.labels.now) c.args.row.now c.requires.is_bound.same_scope c.requires.is_first c.requires.is_quantified_synchronisation (asked ∙ c.if-not-in_set.false) c.args.out.now (values-none _ _ c.is_empty.result c.values.ensures.tells_the_values c.is_empty.ensures w.if-is_empty.true)
      | quantified_synchronisation-then-is_empty-via-else-is_empty+then-not-all_can w ↦
          not-all d a g c.args.over c.args.part c.args.body (labels_of c.args.labels.now) c.args.row.now c.requires.is_bound.same_scope c.requires.is_first c.requires.is_quantified_synchronisation (asked ∙ c.if-not-in_set.false) c.args.out.now (values-some _ _ c.is_empty.result c.values.ensures.tells_the_values c.is_empty.ensures w.if-is_empty.false)
          (decides-no _ w.all_can.result w.if-not-all_can.true (w.all_can.ensures g agrees))
    ]

-- src/collecting.rt:361:13
pub quantified_synchronisation-returns-then-room-eq0-clause-adds :
    goal.quantified_synchronisation-returns-then-room-eq0-clause-adds
quantified_synchronisation-returns-then-room-eq0-clause-adds t c =
    let d = c.args.self.now.diagram.now in
    let a = c.args.self.now.answers.now in
    let asked = ap (λ (e : Event). in_set e.label c.args.labels.now.items) (sym c.event.ensures.is_the_event) ∙ sym c.in_set.ensures in
    let some = values-some _ _ c.is_empty.result c.values.ensures.tells_the_values c.is_empty.ensures c.if-is_empty.false in
    let inside = bound-inside d c.args.over c.args.part c.args.body (labels_of c.args.labels.now) c.requires.is_first c.requires.is_quantified_synchronisation c.requires.is_in_place.is_inside in
    λ g agrees r.
    no-room d a g c.args.over c.args.part c.args.body (labels_of c.args.labels.now) c.args.row.now c.requires.is_bound.same_scope c.requires.is_first c.requires.is_quantified_synchronisation (asked ∙ c.if-not-in_set.false) c.args.out.now (sym c.room.ensures.counts_the_places ∙ c.if-room-eq0.true) some inside ((c.all_can.ensures g agrees).0 c.if-not-all_can.false)

-- src/collecting.rt:344:5
pub quantified_synchronisation-returns-clause-adds :
    goal.quantified_synchronisation-returns-clause-adds
quantified_synchronisation-returns-clause-adds t c =
    let d = c.args.self.now.diagram.now in
    let a = c.args.self.now.answers.now in
    let asked = ap (λ (e : Event). in_set e.label c.args.labels.now.items) (sym c.event.ensures.is_the_event) ∙ sym c.in_set.ensures in
    let some = values-some _ _ c.is_empty.result c.values.ensures.tells_the_values c.is_empty.ensures c.if-is_empty.false in
    λ g agrees r.
    all-together d a g c.args.over c.args.part c.args.body (labels_of c.args.labels.now) c.args.row.now c.requires.is_bound.same_scope c.requires.is_first c.requires.is_quantified_synchronisation (asked ∙ c.if-not-in_set.false) c.args.out.now c.all_instances.new.out c.all_instances.result some (c.all_instances.ensures.adds g agrees r ((c.all_can.ensures g agrees).0 c.if-not-all_can.false))

-- src/collecting.rt:47:5
pub resume-returns-clause-adds : goal.resume-returns-clause-adds
resume-returns-clause-adds t c g agrees few =
    let d = c.args.self.now.diagram.now in
    let a = c.args.self.now.answers.now in
    let q = cells_of d c.args.child c.args.row.now in
    added-alike (Reached d a g c.args.child c.stay-stayed.result) _ c.args.out.now c.collect.new.out c.collect.result
    (behind-rows d a g c.args.part c.args.child c.args.tag c.args.allowed q c.args.row.now c.stay-stayed.result c.requires.is_in_place c.requires.is_behind c.if-not-allowed.false
    (length-part c.args.row.now.cells c.args.child.at (part_width d c.args.child))
    (subst (λ (j : ℕ). c.stay-stayed.result.cells ≡ framed c.args.row.now.cells c.args.part.at (part_width d c.args.part) (tagged (part_width d c.args.part - 1) c.args.tag (part_at (part_width d c.args.child) c.args.row.now.cells j))) (sym c.requires.is_behind.is_behind)
    (subst (λ (n : ℕ). c.stay-stayed.result.cells ≡ framed c.args.row.now.cells c.args.part.at n (tagged (n - 1) c.args.tag (part_at (part_width d c.args.child) c.args.row.now.cells (c.args.part.at + 1)))) (c.width-size.ensures.is_the_width ∙ ap (λ (n : ℕ). width (tree_at d.plan n)) c.from.ensures) c.stay-stayed.ensures.stays)))
    (c.collect.ensures.adds_the_successors g agrees few)

-- src/collecting.rt:93:9
pub sequence-returns-in_err-resume-clause-adds : goal.sequence-returns-in_err-resume-clause-adds
sequence-returns-in_err-resume-clause-adds t c g agrees few =
    let d = c.args.self.now.diagram.now in
    let a = c.args.self.now.answers.now in
    let p = c.args.part in
    let row = c.args.row.now in
    let o = c.args.out.now in
    let done = c.if-tag-eq0.done in
    let X1 : Row → Type 0 = λ y. PartReached d p row (Resume d a g p row (slice_index row.cells p.at == 0) 0 c.args.first) y in
    let X2 : Row → Type 0 = λ y. PartReached d p row (Start d a g p row done 1 c.args.second) y in
    let X3 : Row → Type 0 = λ y. PartReached d p row (Resume d a g p row (slice_index row.cells p.at == 1) 1 c.args.second) y in
    let is : slice_index row.cells p.at == 0 && finished (tree_at d.plan c.args.first.node) (cells_of d c.args.first row) ≡ done = elim c.if-tag-eq0.branch [
      | sequence-then-tag-eq0 w ↦ both-true (slice_index row.cells p.at) _ _ w.if-tag-eq0.true (w.done-is ∙ w.finished-done.ensures.says_whether_finished ∙ ap (λ (n : ℕ). finished (tree_at d.plan n) (part_at (width (tree_at d.plan n)) row.cells c.args.first.at)) w.from.ensures)
      | sequence-else-tag-eq0 w ↦ first-false (slice_index row.cells p.at) _ _ w.if-tag-eq0.false w.done-is
    ] in
    let rows = sequence-rows d a g p row c.args.first c.args.second done c.requires.is_sequence c.requires.first_is_behind c.requires.second_is_behind is in
    let q = err_from_is_err_and c.from_residual.result c.from_residual.ensures.1 in
    over-1 (Reached d a g p row) X1 (EitherRow X2 X3) rows o c.resume.new.out q.0 _ q.1 (c.in_err-resume.ensures.adds g agrees few)

-- src/collecting.rt:94:9
pub sequence-returns-in_err-start-clause-adds : goal.sequence-returns-in_err-start-clause-adds
sequence-returns-in_err-start-clause-adds t c g agrees few =
    let d = c.args.self.now.diagram.now in
    let a = c.args.self.now.answers.now in
    let p = c.args.part in
    let row = c.args.row.now in
    let o = c.args.out.now in
    let done = c.if-tag-eq0.done in
    let X1 : Row → Type 0 = λ y. PartReached d p row (Resume d a g p row (slice_index row.cells p.at == 0) 0 c.args.first) y in
    let X2 : Row → Type 0 = λ y. PartReached d p row (Start d a g p row done 1 c.args.second) y in
    let X3 : Row → Type 0 = λ y. PartReached d p row (Resume d a g p row (slice_index row.cells p.at == 1) 1 c.args.second) y in
    let is : slice_index row.cells p.at == 0 && finished (tree_at d.plan c.args.first.node) (cells_of d c.args.first row) ≡ done = elim c.if-tag-eq0.branch [
      | sequence-then-tag-eq0 w ↦ both-true (slice_index row.cells p.at) _ _ w.if-tag-eq0.true (w.done-is ∙ w.finished-done.ensures.says_whether_finished ∙ ap (λ (n : ℕ). finished (tree_at d.plan n) (part_at (width (tree_at d.plan n)) row.cells c.args.first.at)) w.from.ensures)
      | sequence-else-tag-eq0 w ↦ first-false (slice_index row.cells p.at) _ _ w.if-tag-eq0.false w.done-is
    ] in
    let rows = sequence-rows d a g p row c.args.first c.args.second done c.requires.is_sequence c.requires.first_is_behind c.requires.second_is_behind is in
    let s = c.in_ok-resume.ensures in
    let q = err_from_is_err_and c.from_residual-in_err-start.result c.from_residual-in_err-start.ensures.1 in
    over-2 (Reached d a g p row) X1 X2 X3 rows o c.resume.new.out c.start.new.out q.0 _ q.1 s.stays (s.adds g agrees few) (c.in_err-start.ensures.adds g agrees (still-few o c.resume.new.out 128 s.stays few))

-- src/collecting.rt:81:5
pub sequence-returns-clause-adds : goal.sequence-returns-clause-adds
sequence-returns-clause-adds t c g agrees few =
    let d = c.args.self.now.diagram.now in
    let a = c.args.self.now.answers.now in
    let p = c.args.part in
    let row = c.args.row.now in
    let o = c.args.out.now in
    let done = c.if-tag-eq0.done in
    let X1 : Row → Type 0 = λ y. PartReached d p row (Resume d a g p row (slice_index row.cells p.at == 0) 0 c.args.first) y in
    let X2 : Row → Type 0 = λ y. PartReached d p row (Start d a g p row done 1 c.args.second) y in
    let X3 : Row → Type 0 = λ y. PartReached d p row (Resume d a g p row (slice_index row.cells p.at == 1) 1 c.args.second) y in
    let is : slice_index row.cells p.at == 0 && finished (tree_at d.plan c.args.first.node) (cells_of d c.args.first row) ≡ done = elim c.if-tag-eq0.branch [
      | sequence-then-tag-eq0 w ↦ both-true (slice_index row.cells p.at) _ _ w.if-tag-eq0.true (w.done-is ∙ w.finished-done.ensures.says_whether_finished ∙ ap (λ (n : ℕ). finished (tree_at d.plan n) (part_at (width (tree_at d.plan n)) row.cells c.args.first.at)) w.from.ensures)
      | sequence-else-tag-eq0 w ↦ first-false (slice_index row.cells p.at) _ _ w.if-tag-eq0.false w.done-is
    ] in
    let rows = sequence-rows d a g p row c.args.first c.args.second done c.requires.is_sequence c.requires.first_is_behind c.requires.second_is_behind is in
    let s = c.in_ok-resume.ensures in
    let u = c.in_ok-start.ensures in
    let few1 = still-few o c.resume.new.out 128 s.stays few in
    let few2 = still-few c.resume.new.out c.start.new.out 128 u.stays few1 in
    done-3 (Reached d a g p row) X1 X2 X3 rows o c.resume.new.out c.start.new.out c.resume-2.new.out c.resume-2.result s.stays u.stays (s.adds g agrees few) (u.adds g agrees few1) (c.resume-2.ensures.adds g agrees few2)

-- src/collecting.rt:226:17
pub some_start-start-requires : goal.some_start-start-requires
some_start-start-requires t c =
    let get = value-there _ c.values.result.now c.args.k c.in-Some.x.now c.values.ensures.tells_the_values c.in-Some.ensures.lookup.3.0 c.in-Some.ensures.lookup.1 in
    let behind = bound-behind c.args.self.now.diagram.now c.args.part c.args.over c.args.body c.bound.result c.args.k c.in-Some.x.now (c.args.k + 1)
    c.requires.is_in_place c.requires.is_bound c.requires.is_behind (c.requires.is_narrower c.args.k c.in-Some.x.now get) c.bound.ensures.keeps_the_cells c.bound.ensures.suits_what_is_below (omega arith) get in
    (omega arith, (c.requires.is_in_place, behind))

-- src/collecting.rt:226:17
pub some_start-returns-in_err-start-in-Some-clause-adds :
    goal.some_start-returns-in_err-start-in-Some-clause-adds
some_start-returns-in_err-start-in-Some-clause-adds t c =
    let get = value-there _ c.values.result.now c.args.k c.in-Some.x.now c.values.ensures.tells_the_values c.in-Some.ensures.lookup.3.0 c.in-Some.ensures.lookup.1 in
    λ g agrees few. starts-over c.args.self.now.diagram.now c.args.self.now.answers.now g c.args.part c.args.over c.args.body c.args.row.now c.bound.result c.args.k c.in-Some.x.now c.bound.ensures.keeps_the_cells c.bound.ensures.binds get
    c.args.out.now c.start.new.out c.from_residual.result c.from_residual.ensures.0 (c.in_err-start-in-Some.ensures.adds g agrees few)

-- src/collecting.rt:213:5
pub some_start-returns-in-None-clause-adds : goal.some_start-returns-in-None-clause-adds
some_start-returns-in-None-clause-adds t c =
    let past = value-past _ c.values.result.now c.args.k c.values.ensures.tells_the_values c.in-None.ensures.lookup.3 in
    λ g agrees few. added-none _ c.args.out.now (starts-past c.args.self.now.diagram.now c.args.self.now.answers.now g c.args.part c.args.over c.args.body c.args.row.now c.args.k past)

-- src/collecting.rt:213:5
pub some_start-returns-in_ok-start-in-Some-clause-adds :
    goal.some_start-returns-in_ok-start-in-Some-clause-adds
some_start-returns-in_ok-start-in-Some-clause-adds t c =
    let get = value-there _ c.values.result.now c.args.k c.in-Some.x.now c.values.ensures.tells_the_values c.in-Some.ensures.lookup.3.0 c.in-Some.ensures.lookup.1 in
    let stays = c.in_ok-start-in-Some.ensures.stays in
    λ g agrees few. starts-added c.args.self.now.diagram.now c.args.self.now.answers.now g c.args.part c.args.over c.args.body c.args.row.now c.bound.result c.args.k c.in-Some.x.now c.bound.ensures.keeps_the_cells c.bound.ensures.binds get
    c.args.out.now c.start.new.out c.some_start.new.out c.some_start.result stays
    (c.in_ok-start-in-Some.ensures.adds g agrees few) (c.some_start.ensures.adds g agrees (omega (arith, stays.room)))

-- src/collecting.rt:30:5
pub start-returns-clause-adds : goal.start-returns-clause-adds
start-returns-clause-adds t c g agrees few =
    let d = c.args.self.now.diagram.now in
    let a = c.args.self.now.answers.now in
    let q = initial (tree_at d.plan c.args.child.node) in
    added-alike (Reached d a g c.args.child c.enter-entered.result) _ c.args.out.now c.collect.new.out c.collect.result
    (behind-rows d a g c.args.part c.args.child c.args.tag c.args.allowed q c.args.row.now c.enter-entered.result c.requires.is_in_place c.requires.is_behind c.if-not-allowed.false
    (initial-width (tree_at d.plan c.args.child.node))
    (subst (λ (n : ℕ). c.enter-entered.result.cells ≡ framed c.args.row.now.cells c.args.part.at n (tagged (n - 1) c.args.tag q)) (c.width-size.ensures.is_the_width ∙ ap (λ (n : ℕ). width (tree_at d.plan n)) c.from.ensures) c.enter-entered.ensures.enters))
    (c.collect.ensures.adds_the_successors g agrees few)

-- src/collecting.rt:182:5
pub synchronisation-returns-then-in_set-clause-adds :
    goal.synchronisation-returns-then-in_set-clause-adds
synchronisation-returns-then-in_set-clause-adds t c =
    let d = c.args.self.now.diagram.now in
    let a = c.args.self.now.answers.now in
    let asked = ap (λ (e : Event). in_set e.label c.args.labels.now.items) (sym c.event.ensures.is_the_event) ∙ sym c.in_set.ensures in
    λ g agrees r.
    together-added d a g c.args.part c.args.left c.args.right c.args.row.now c.requires.are_beside (labels_of c.args.labels.now) c.requires.is_in_place.is_inside c.requires.is_synchronisation c.args.out.now c.both_sides.new.out c.both_sides.result (asked ∙ c.if-in_set.true) (c.both_sides.ensures.adds g agrees r)

-- src/collecting.rt:182:5
pub synchronisation-returns-else-in_set-clause-adds :
    goal.synchronisation-returns-else-in_set-clause-adds
synchronisation-returns-else-in_set-clause-adds t c =
    let d = c.args.self.now.diagram.now in
    let a = c.args.self.now.answers.now in
    let asked = ap (λ (e : Event). in_set e.label c.args.labels.now.items) (sym c.event.ensures.is_the_event) ∙ sym c.in_set.ensures in
    λ g agrees r.
    apart-added d a g c.args.part c.args.left c.args.right c.args.row.now c.requires.are_beside (labels_of c.args.labels.now) c.requires.is_in_place.is_inside c.requires.is_synchronisation c.args.out.now c.either_side.new.out c.either_side.result (asked ∙ c.if-in_set.false) (c.either_side.ensures.adds g agrees r)
