use Rattle.procedure.specs.Procedures.{drawing}
use Rattle.run.proofs.JustOpened.{opened-stands}
use Rattle.run.proofs.run.Run.open.Goals as goal

pub returns-clause-stands_as_the_law_says_unless_refused : goal.returns-clause-stands_as_the_law_says_unless_refused
returns-clause-stands_as_the_law_says_unless_refused g c =
    opened-stands (drawing c.args.procedure.now) (g.R.Roster.values c.args.roster.now) c.args.ceiling c.in_ok-opened.opened c.in_ok-opened.ensures.opens_or_tells_the_first_no.1
