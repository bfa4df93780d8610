use Rattle.script.proofs.Texted.{line_of-call}
use Rattle.script.proofs.laws.calls_read_back.Goals as goal

pub returns-clause-a_name_and_its_numbers : goal.returns-clause-a_name_and_its_numbers
returns-clause-a_name_and_its_numbers c = line_of-call
