use Rattle.law.proofs.Deciding.{decides}
use Rattle.law.proofs.laws.the_law_decides.Goals as goal

pub returns : goal.returns
returns c = record { two_logs_that_obey_it_are_equal = decides }
