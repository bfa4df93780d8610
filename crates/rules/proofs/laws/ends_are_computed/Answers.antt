use Rattle.rules.proofs.Ends.{listed-ends, ends-rise, ends-alone}
use Rattle.rules.proofs.laws.ends_are_computed.Goals as goal

pub returns-clause-they_are_the_ends_of_chains : goal.returns-clause-they_are_the_ends_of_chains
returns-clause-they_are_the_ends_of_chains c = listed-ends

pub returns-clause-they_rise : goal.returns-clause-they_rise
returns-clause-they_rise c = ends-rise

pub returns-clause-there_is_one_such_list : goal.returns-clause-there_is_one_such_list
returns-clause-there_is_one_such_list c = ends-alone
