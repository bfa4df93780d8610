use Rattle.rules.proofs.Points.{unmarked-unfinished, shallow-finished, deep-finished, sequence-finished, guard-asked-once, guard-finished, closure-starts, closure-goes-on, closure-restarts, elementary-not-waited, choice-finished, quantified-choice-finished}
use Rattle.rules.proofs.laws.readings_are_settled.Goals as goal

pub returns-clause-a_sequence_finishes_with_both_parts : goal.returns-clause-a_sequence_finishes_with_both_parts
returns-clause-a_sequence_finishes_with_both_parts c = sequence-finished

pub returns-clause-a_guard_is_asked_once : goal.returns-clause-a_guard_is_asked_once
returns-clause-a_guard_is_asked_once c = guard-asked-once

pub returns-clause-a_guard_not_started_is_finished_as_its_body_begins : goal.returns-clause-a_guard_not_started_is_finished_as_its_body_begins
returns-clause-a_guard_not_started_is_finished_as_its_body_begins c = guard-finished

pub returns-clause-a_closure_starts_by_its_body : goal.returns-clause-a_closure_starts_by_its_body
returns-clause-a_closure_starts_by_its_body c = closure-starts

pub returns-clause-a_closure_restarts_only_when_finished : goal.returns-clause-a_closure_restarts_only_when_finished
returns-clause-a_closure_restarts_only_when_finished c = closure-goes-on

pub returns-clause-a_finished_closure_restarts : goal.returns-clause-a_finished_closure_restarts
returns-clause-a_finished_closure_restarts c = closure-restarts

pub returns-clause-an_elementary_state_is_not_waited_for : goal.returns-clause-an_elementary_state_is_not_waited_for
returns-clause-an_elementary_state_is_not_waited_for c = elementary-not-waited

pub returns-clause-a_choice_not_begun_is_finished_by_either_side : goal.returns-clause-a_choice_not_begun_is_finished_by_either_side
returns-clause-a_choice_not_begun_is_finished_by_either_side c = choice-finished

pub returns-clause-a_quantified_choice_not_begun_is_finished_as_its_body_begins : goal.returns-clause-a_quantified_choice_not_begun_is_finished_as_its_body_begins
returns-clause-a_quantified_choice_not_begun_is_finished_as_its_body_begins c = quantified-choice-finished

pub returns-clause-an_unmarked_state_is_not_finished : goal.returns-clause-an_unmarked_state_is_not_finished
returns-clause-an_unmarked_state_is_not_finished c = unmarked-unfinished

pub returns-clause-a_shallow_state_is_finished : goal.returns-clause-a_shallow_state_is_finished
returns-clause-a_shallow_state_is_finished c = shallow-finished

pub returns-clause-a_deep_state_is_finished_as_its_child : goal.returns-clause-a_deep_state_is_finished_as_its_child
returns-clause-a_deep_state_is_finished_as_its_child c = deep-finished
