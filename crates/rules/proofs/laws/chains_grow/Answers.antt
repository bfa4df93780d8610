use Rattle.rules.proofs.Joins.{chains-begin, chains-go-on, chains-join}
use Rattle.rules.proofs.laws.chains_grow.Goals as goal

pub returns-clause-over_no_event_they_end_where_they_start : goal.returns-clause-over_no_event_they_end_where_they_start
returns-clause-over_no_event_they_end_where_they_start c = chains-begin

pub returns-clause-over_one_event_more_they_go_on_by_a_successor : goal.returns-clause-over_one_event_more_they_go_on_by_a_successor
returns-clause-over_one_event_more_they_go_on_by_a_successor c = chains-go-on

pub returns-clause-over_two_lists_they_join : goal.returns-clause-over_two_lists_they_join
returns-clause-over_two_lists_they_join c = chains-join
