use Rattle.run.proofs.Unopened.{never-taken, nothing-listed}
use Rattle.run.proofs.run.Run.new.Goals as goal

-- src/calling.rt:25:5
pub returns-clause-refuses_each_event_in_form_with_16_at_0 :
    goal.returns-clause-refuses_each_event_in_form_with_16_at_0
returns-clause-refuses_each_event_in_form_with_16_at_0 c = never-taken

-- src/calling.rt:25:5
pub returns-clause-has_an_empty_menu : goal.returns-clause-has_an_empty_menu
returns-clause-has_an_empty_menu c = nothing-listed
