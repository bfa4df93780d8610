use Rattle.rules.proofs.Points.{both-sides-finish, every-instance-finishes}
use Rattle.rules.proofs.laws.synchronisations_finish.Goals as goal

pub returns-clause-both_sides_are_finished : goal.returns-clause-both_sides_are_finished
returns-clause-both_sides_are_finished c = both-sides-finish

pub returns-clause-every_instance_is_finished : goal.returns-clause-every_instance_is_finished
returns-clause-every_instance_is_finished c = every-instance-finishes
