use Rattle.std.proofs.Common.{◌-◌}
use Rattle.diagram.proofs.Told.{Begun}
use Rattle.diagram.proofs.valuing.list_of.Given as goal

abbrev pub invariant-loop-position : goal.invariant-loop-position
invariant-loop-position g l = Begun (g.R.Roster.values l.roster l.ty) l.count (l.position - 1) l.list.items
