use Rattle.rules.proofs.Growing.{tree-sound}
use Rattle.rules.proofs.InRange.{initial-in-range, step-in-range}
use Rattle.rules.proofs.Joins.{end-in-range}
use Rattle.procedure.specs.Procedures.{drawing}
use Rattle.rules.proofs.laws.cells_stay_in_range.Goals as goal

pub returns-clause-diagrams_of_procedures_are_sound : goal.returns-clause-diagrams_of_procedures_are_sound
returns-clause-diagrams_of_procedures_are_sound c p values = tree-sound values (drawing p) p.drawn

pub returns-clause-initial_cells_are_in_range : goal.returns-clause-initial_cells_are_in_range
returns-clause-initial_cells_are_in_range c = initial-in-range

pub returns-clause-successors_are_in_range : goal.returns-clause-successors_are_in_range
returns-clause-successors_are_in_range c = step-in-range

pub returns-clause-ends_are_in_range : goal.returns-clause-ends_are_in_range
returns-clause-ends_are_in_range c = end-in-range
