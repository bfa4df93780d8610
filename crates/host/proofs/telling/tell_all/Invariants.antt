use Rattle.std.proofs.Common.{take}
use Rattle.host.specs.Meanings.{Told}
use Rattle.host.proofs.telling.tell_all.Given as goal

abbrev pub invariant-loop-event : goal.invariant-loop-event
invariant-loop-event g l = Told (g.H.GuardHost.meaning l.initial.host) (take l.event-index l.events) (g.H.GuardHost.meaning l.host)
