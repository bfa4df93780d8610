use Rattle.std.proofs.Common.{arith}
use Rattle.std.proofs.lemmas.Grind.{common_steps}
use Rattle.fault.proofs.Refusals.{refusal-more, refusal-stop}
use Rattle.procedure.proofs.draft.Draft.whole.Goals as goal

pub returns-in_err-rooted : goal.returns-in_err-rooted
returns-in_err-rooted c = grind (arith, common_steps, refusal-stop)

pub returns-in_err-binders_fit : goal.returns-in_err-binders_fit
returns-in_err-binders_fit c = grind (arith, common_steps, refusal-stop, refusal-more)

pub returns : goal.returns
returns c = grind (arith, common_steps, refusal-more)
