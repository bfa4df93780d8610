use Rattle.rules.proofs.Points.{both-sides-move, one-side-moves, all-instances-move, one-instance-moves, no-instance-no-move}
use Rattle.rules.proofs.laws.synchronisations_move.Goals as goal

pub returns-clause-in_the_set_both_sides_move : goal.returns-clause-in_the_set_both_sides_move
returns-clause-in_the_set_both_sides_move c = both-sides-move

pub returns-clause-outside_the_set_one_side_moves : goal.returns-clause-outside_the_set_one_side_moves
returns-clause-outside_the_set_one_side_moves c = one-side-moves

pub returns-clause-in_the_set_every_instance_moves : goal.returns-clause-in_the_set_every_instance_moves
returns-clause-in_the_set_every_instance_moves c = all-instances-move

pub returns-clause-outside_the_set_one_instance_moves : goal.returns-clause-outside_the_set_one_instance_moves
returns-clause-outside_the_set_one_instance_moves c = one-instance-moves

pub returns-clause-without_a_value_nothing_moves : goal.returns-clause-without_a_value_nothing_moves
returns-clause-without_a_value_nothing_moves c = no-instance-no-move
