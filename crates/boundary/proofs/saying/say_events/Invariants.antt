use Rattle.std.proofs.Common.{◌≡◌, drop}
use Rattle.boundary.specs.Texts.{events_numbers, page, said}
use Rattle.boundary.proofs.saying.say_events.Given as goal

abbrev pub invariant-loop-event : goal.invariant-loop-event
invariant-loop-event l = said (events_numbers (drop l.event-index l.events)) (page l.out l.at) ≡ said (events_numbers l.events) (page l.fn.out l.fn.at)
