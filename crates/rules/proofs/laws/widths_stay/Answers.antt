use Rattle.rules.proofs.Widths.{initial-width, step-width}
use Rattle.rules.proofs.Joins.{end-has-width}
use Rattle.rules.proofs.laws.widths_stay.Goals as goal

pub returns-clause-initial_cells_have_the_width : goal.returns-clause-initial_cells_have_the_width
returns-clause-initial_cells_have_the_width c = initial-width

pub returns-clause-successors_have_the_width : goal.returns-clause-successors_have_the_width
returns-clause-successors_have_the_width c = step-width

pub returns-clause-ends_have_the_width : goal.returns-clause-ends_have_the_width
returns-clause-ends_have_the_width c = end-has-width
