-- A part is moved by those of its node's children, which are below it; instances one by one.
use Rattle.std.proofs.Common.{◌+◌, ◌-◌, ◌*◌, ◌≤◌, take}
use mathlib.Core.List.{Memᴰ}
use Rattle.ordered.specs.Held.{held, room}
use Rattle.row.specs.declared.row.Row.{Row}
use Rattle.rules.specs.Trees.{Guards}
use Rattle.motions.specs.Ways.{Any}
use Rattle.motions.specs.Collecting.{Gained, Stays, FromEach}
use Rattle.answers.specs.Answering.{Agrees}
use Rattle.search.specs.Searching.{successors, Reached, InstancesReached, all_move}
use Rattle.search.proofs.search.Search.+collecting.Given as goal

abbrev pub decreases-each_movable : goal.decreases-each_movable
decreases-each_movable l = 100 * l.part.node + 92

abbrev pub decreases-collect_movable : goal.decreases-collect_movable
decreases-collect_movable l = 100 * l.part.node + 91

abbrev pub decreases-can_move : goal.decreases-can_move
decreases-can_move l = 100 * l.part.node + 91

abbrev pub decreases-collect : goal.decreases-collect
decreases-collect l = 100 * l.part.node + 90

abbrev pub decreases-automaton : goal.decreases-automaton
decreases-automaton l = 100 * l.part.node + 89

abbrev pub decreases-sequence : goal.decreases-sequence
decreases-sequence l = 100 * l.part.node + 89

abbrev pub decreases-closure : goal.decreases-closure
decreases-closure l = 100 * l.part.node + 89

abbrev pub decreases-guard : goal.decreases-guard
decreases-guard l = 100 * l.part.node + 89

abbrev pub decreases-choice : goal.decreases-choice
decreases-choice l = 100 * l.part.node + 89

abbrev pub decreases-synchronisation : goal.decreases-synchronisation
decreases-synchronisation l = 100 * l.part.node + 89

abbrev pub decreases-movable_synchronisation : goal.decreases-movable_synchronisation
decreases-movable_synchronisation l = 100 * l.part.node + 89

abbrev pub decreases-either_side : goal.decreases-either_side
decreases-either_side l = 100 * l.part.node + 88

abbrev pub decreases-both_sides : goal.decreases-both_sides
decreases-both_sides l = 100 * l.part.node + 88

abbrev pub decreases-both_move : goal.decreases-both_move
decreases-both_move l = 100 * l.part.node + 87

abbrev pub decreases-both_move_in_few : goal.decreases-both_move_in_few
decreases-both_move_in_few l = 100 * l.part.node + 86

abbrev pub decreases-both_move_in_many : goal.decreases-both_move_in_many
decreases-both_move_in_many l = 100 * l.part.node + 86

abbrev pub decreases-both_move_in : goal.decreases-both_move_in
decreases-both_move_in l = 100 * l.part.node + 85

abbrev pub decreases-quantified_choice : goal.decreases-quantified_choice
decreases-quantified_choice l = 100 * l.part.node + 89

abbrev pub decreases-quantified_synchronisation : goal.decreases-quantified_synchronisation
decreases-quantified_synchronisation l = 100 * l.part.node + 89

abbrev pub decreases-movable_quantified_synchronisation : goal.decreases-movable_quantified_synchronisation
decreases-movable_quantified_synchronisation l = 100 * l.part.node + 89

abbrev pub decreases-chosen_resumes : goal.decreases-chosen_resumes
decreases-chosen_resumes l = 100 * l.part.node + 1

abbrev pub decreases-some_start : goal.decreases-some_start
decreases-some_start l = 100 * l.part.node + 1 + (17 - l.k)

abbrev pub decreases-one_instance : goal.decreases-one_instance
decreases-one_instance l = 100 * l.part.node + 1 + (17 - l.k)

abbrev pub decreases-all_can : goal.decreases-all_can
decreases-all_can l = 100 * l.part.node + 1 + (17 - l.k)

abbrev pub decreases-all_instances : goal.decreases-all_instances
decreases-all_instances l = 100 * l.part.node + 4 + 4 * (17 - l.k)

abbrev pub decreases-all_instances_in_few : goal.decreases-all_instances_in_few
decreases-all_instances_in_few l = 100 * l.part.node + 3 + 4 * (17 - l.k)

abbrev pub decreases-all_instances_in_many : goal.decreases-all_instances_in_many
decreases-all_instances_in_many l = 100 * l.part.node + 3 + 4 * (17 - l.k)

abbrev pub decreases-all_instances_in : goal.decreases-all_instances_in
decreases-all_instances_in l = 100 * l.part.node + 2 + 4 * (17 - l.k)

abbrev pub decreases-all_instances_of_each : goal.decreases-all_instances_of_each
decreases-all_instances_of_each l = 100 * l.part.node + 5 + 4 * (17 - l.k)

abbrev pub decreases-start : goal.decreases-start
decreases-start l = 100 * l.part.node

abbrev pub decreases-resume : goal.decreases-resume
decreases-resume l = 100 * l.part.node

-- what the rows so far have added, if the table agrees with the guards, and if it can move in each of them
abbrev pub invariant-each_movable-loop-row : goal.invariant-each_movable-loop-row
invariant-each_movable-loop-row l =
    Stays l.initial.out l.out
    × ((g : Guards) → Agrees l.self.diagram.now l.self.answers.now g → room l.initial.out ≤ 128
    → ((x : Row) → Memᴰ x l.rows → Any (successors l.self.diagram.now l.self.answers.now g l.part x))
    → Gained (FromEach (take l.row-index l.rows) (λ x y. Reached l.self.diagram.now l.self.answers.now g l.part x y)) (held l.initial.out) (held l.out))

abbrev pub invariant-all_instances_of_each-loop-row : goal.invariant-all_instances_of_each-loop-row
invariant-all_instances_of_each-loop-row l =
    Stays l.initial.out l.out
    × ((g : Guards) → Agrees l.self.diagram.now l.self.answers.now g → room l.initial.out ≤ 128
    → ((x : Row) → Memᴰ x (held l.rows) → Any (all_move l.self.diagram.now l.self.answers.now g l.over l.body l.k x))
    → Gained (FromEach (take l.row-index l.row-items) (λ x y. InstancesReached l.self.diagram.now l.over l.body l.k x (all_move l.self.diagram.now l.self.answers.now g l.over l.body l.k x) y)) (held l.initial.out) (held l.out))
