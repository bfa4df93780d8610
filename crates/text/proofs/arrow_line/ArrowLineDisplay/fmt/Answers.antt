use Rattle.text.proofs.arrow_line.ArrowLineDisplay.fmt.Goals as goal

pub returns-clause-writes : goal.returns-clause-writes
returns-clause-writes g c plain ok = rw (← c.wait_text-wait.ensures) (c.write.ensures.writes plain ok)
