use Rattle.answers.proofs.Agreeing.{willing-agrees}
use Rattle.answers.proofs.answers.Entries.to.Goals as goal

pub returns-clause-agrees_with_a_host_that_says_yes :
    goal.returns-clause-agrees_with_a_host_that_says_yes
returns-clause-agrees_with_a_host_that_says_yes g c d enough nodes arrows = willing-agrees d _ g.row.N g.row.A enough nodes arrows
