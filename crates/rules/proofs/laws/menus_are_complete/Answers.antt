use Rattle.rules.proofs.Candidates.{step-carried, carried-listed, menu-exact, menu-goes-on, menu-rises}
use Rattle.rules.proofs.laws.menus_are_complete.Goals as goal

pub returns-clause-a_successors_event_is_carried : goal.returns-clause-a_successors_event_is_carried
returns-clause-a_successors_event_is_carried c = step-carried

pub returns-clause-a_carried_event_is_a_candidate : goal.returns-clause-a_carried_event_is_a_candidate
returns-clause-a_carried_event_is_a_candidate c = carried-listed

pub returns-clause-the_computed_menu_is_exact : goal.returns-clause-the_computed_menu_is_exact
returns-clause-the_computed_menu_is_exact c = menu-exact

pub returns-clause-the_computed_menu_holds_nothing_else : goal.returns-clause-the_computed_menu_holds_nothing_else
returns-clause-the_computed_menu_holds_nothing_else c = menu-goes-on

pub returns-clause-the_computed_menu_rises : goal.returns-clause-the_computed_menu_rises
returns-clause-the_computed_menu_rises c = menu-rises
