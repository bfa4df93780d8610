use Rattle.std.proofs.Common.{refl, [], ◌∷◌}
use Rattle.procedure.specs.Sound.{sound}
use Rattle.rules.specs.Growing.{tree_of}
use Rattle.rules.specs.Moves.{join, placed, over, for_each, past_zero, if_some, one_if, targets}
use Rattle.rules.specs.Ends.{arranged}
use Rattle.rules.specs.Examples.{type_0_has, axle}
use Rattle.rules.proofs.Shown.{ends-exactly, menu-exactly}
use Rattle.rules.proofs.examples.examples_hold.Goals as goal

pub returns-clause-an_axle_is_selected : goal.returns-clause-an_axle_is_selected
unfolding tree_of join placed over for_each past_zero if_some one_if targets arranged sound
returns-clause-an_axle_is_selected c = record { rows = ends-exactly _ _ _ _ refl; done = refl; menu = menu-exactly (type_0_has (1 ∷ 2 ∷ 3 ∷ [])) axle 2 _ _ _ refl refl }

pub returns-clause-that_axle_is_measured : goal.returns-clause-that_axle_is_measured
unfolding tree_of join placed over for_each past_zero if_some one_if targets arranged sound
returns-clause-that_axle_is_measured c = record { rows = ends-exactly _ _ _ _ refl; unfinished = refl; menu = menu-exactly (type_0_has (1 ∷ 2 ∷ 3 ∷ [])) axle 2 _ _ _ refl refl; other = ends-exactly _ _ _ _ refl }

pub returns-clause-then_the_next_axle : goal.returns-clause-then_the_next_axle
unfolding tree_of join placed over for_each past_zero if_some one_if targets arranged sound
returns-clause-then_the_next_axle c = record { rows = ends-exactly _ _ _ _ refl; done = refl; menu = menu-exactly (type_0_has (1 ∷ 2 ∷ 3 ∷ [])) axle 2 _ _ _ refl refl }

pub returns-clause-two_sides_move_apart : goal.returns-clause-two_sides_move_apart
unfolding tree_of join placed over for_each past_zero if_some one_if targets arranged
returns-clause-two_sides_move_apart c = record { once = ends-exactly _ _ _ _ refl; twice = ends-exactly _ _ _ _ refl }

pub returns-clause-two_sides_move_together : goal.returns-clause-two_sides_move_together
unfolding tree_of join placed over for_each past_zero if_some one_if targets arranged
returns-clause-two_sides_move_together c = record { once = ends-exactly _ _ _ _ refl; twice = ends-exactly _ _ _ _ refl }

pub returns-clause-a_first_part_goes_on_or_hands_over : goal.returns-clause-a_first_part_goes_on_or_hands_over
unfolding tree_of join placed over for_each past_zero if_some one_if targets arranged
returns-clause-a_first_part_goes_on_or_hands_over c = record { once = ends-exactly _ _ _ _ refl; twice = ends-exactly _ _ _ _ refl; unfinished = refl }

pub returns-clause-a_choice_keeps_both_sides : goal.returns-clause-a_choice_keeps_both_sides
unfolding tree_of join placed over for_each past_zero if_some one_if targets arranged
returns-clause-a_choice_keeps_both_sides c = record { begins = ends-exactly _ _ _ _ refl; once = ends-exactly _ _ _ _ refl }

pub returns-clause-a_guard_is_asked_at_the_first_event : goal.returns-clause-a_guard_is_asked_at_the_first_event
unfolding tree_of join placed over for_each past_zero if_some one_if targets arranged
returns-clause-a_guard_is_asked_at_the_first_event c = record { twice = ends-exactly _ _ _ _ refl; thrice = ends-exactly _ _ _ _ refl }

pub returns-clause-a_guard_is_asked_at_each_start : goal.returns-clause-a_guard_is_asked_at_each_start
unfolding tree_of join placed over for_each past_zero if_some one_if targets arranged
returns-clause-a_guard_is_asked_at_each_start c = record { once = ends-exactly _ _ _ _ refl; done = refl; twice = ends-exactly _ _ _ _ refl }

pub returns-clause-all_wheels_are_stored_at_once : goal.returns-clause-all_wheels_are_stored_at_once
unfolding tree_of join placed over for_each past_zero if_some one_if targets arranged
returns-clause-all_wheels_are_stored_at_once c = record { none_read = ends-exactly _ _ _ _ refl; one_read = ends-exactly _ _ _ _ refl; too_early = ends-exactly _ _ _ _ refl; both_read = ends-exactly _ _ _ _ refl; stored = ends-exactly _ _ _ _ refl }

pub returns-clause-an_arrow_waits_for_a_child : goal.returns-clause-an_arrow_waits_for_a_child
unfolding tree_of join placed over for_each past_zero if_some one_if targets arranged
returns-clause-an_arrow_waits_for_a_child c = record { too_early = ends-exactly _ _ _ _ refl; child_moved = ends-exactly _ _ _ _ refl; left = ends-exactly _ _ _ _ refl }

pub returns-clause-an_arrow_waits_for_no_elementary_state : goal.returns-clause-an_arrow_waits_for_no_elementary_state
unfolding tree_of join placed over for_each past_zero if_some one_if targets arranged
returns-clause-an_arrow_waits_for_no_elementary_state c = ends-exactly _ _ _ _ refl

pub returns-clause-a_sequence_restarts_after_both_parts : goal.returns-clause-a_sequence_restarts_after_both_parts
unfolding tree_of join placed over for_each past_zero if_some one_if targets arranged
returns-clause-a_sequence_restarts_after_both_parts c = record { first_part = ends-exactly _ _ _ _ refl; unfinished = refl; no_restart = ends-exactly _ _ _ _ refl; both_parts = ends-exactly _ _ _ _ refl; restart = ends-exactly _ _ _ _ refl }

pub returns-clause-two_arrows_give_one_row_and_one_event_two : goal.returns-clause-two_arrows_give_one_row_and_one_event_two
unfolding tree_of join placed over for_each past_zero if_some one_if targets arranged
returns-clause-two_arrows_give_one_row_and_one_event_two c = record { begins = ends-exactly _ _ _ _ refl; one = ends-exactly _ _ _ _ refl; two = ends-exactly _ _ _ _ refl }

pub returns-clause-nested_binders_give_outer_and_inner : goal.returns-clause-nested_binders_give_outer_and_inner
unfolding tree_of join placed over for_each past_zero if_some one_if targets arranged
returns-clause-nested_binders_give_outer_and_inner c = record { begins = ends-exactly _ _ _ _ refl; chosen = ends-exactly _ _ _ _ refl; twice = ends-exactly _ _ _ _ refl; too_few = ends-exactly _ _ _ _ refl }

pub returns-clause-an_arrows_guard_is_asked_at_every_event : goal.returns-clause-an_arrows_guard_is_asked_at_every_event
unfolding tree_of join placed over for_each past_zero if_some one_if targets arranged
returns-clause-an_arrows_guard_is_asked_at_every_event c = record { once = ends-exactly _ _ _ _ refl; twice = ends-exactly _ _ _ _ refl }

pub returns-clause-two_sides_begin_each_in_its_state : goal.returns-clause-two_sides_begin_each_in_its_state
unfolding tree_of join placed over for_each past_zero if_some one_if targets arranged
returns-clause-two_sides_begin_each_in_its_state c = ends-exactly _ _ _ _ refl

pub returns-clause-guards_look_at_the_variables : goal.returns-clause-guards_look_at_the_variables
unfolding tree_of join placed over for_each past_zero if_some one_if targets arranged
returns-clause-guards_look_at_the_variables c = record { both_hold = ends-exactly _ _ _ _ refl; outer_fails = ends-exactly _ _ _ _ refl; inner_fails = ends-exactly _ _ _ _ refl }

pub returns-clause-procedures_may_hold_them : goal.returns-clause-procedures_may_hold_them
unfolding sound
returns-clause-procedures_may_hold_them c = refl

pub returns-clause-a_second_part_goes_on : goal.returns-clause-a_second_part_goes_on
unfolding tree_of join placed over for_each past_zero if_some one_if targets arranged
returns-clause-a_second_part_goes_on c = ends-exactly _ _ _ _ refl

pub returns-clause-a_later_event_decides : goal.returns-clause-a_later_event_decides
unfolding tree_of join placed over for_each past_zero if_some one_if targets arranged
returns-clause-a_later_event_decides c = record { unbegun = refl; both = ends-exactly _ _ _ _ refl; left = refl; right = refl; left_decided = ends-exactly _ _ _ _ refl; right_decided = ends-exactly _ _ _ _ refl }

pub returns-clause-a_child_begins_anew : goal.returns-clause-a_child_begins_anew
unfolding tree_of join placed over for_each past_zero if_some one_if targets arranged
returns-clause-a_child_begins_anew c = record { unfinished = refl; done = refl; anew = ends-exactly _ _ _ _ refl }
