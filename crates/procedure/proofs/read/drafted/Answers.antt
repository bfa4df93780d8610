use Rattle.std.proofs.Common.{arith}
use Rattle.std.proofs.lemmas.Grind.{common_steps}
use Rattle.procedure.proofs.Readings.{asks-stop, asks-more}
use Rattle.procedure.proofs.read.drafted.Goals as goal

pub returns-in_err-fill : goal.returns-in_err-fill
returns-in_err-fill c = grind (arith, common_steps, asks-stop)

pub returns : goal.returns
returns c = grind (arith, common_steps, asks-more)
