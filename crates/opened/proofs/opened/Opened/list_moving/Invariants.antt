use Rattle.std.proofs.Common.{◌≡◌, ◌||◌, List, length, take, nat_lt}
use mathlib.Core.List.{Memᴰ}
use Rattle.ordered.specs.Held.{room}
use Rattle.event.specs.declared.event.Event.{Event}
use Rattle.opened.specs.Listing.{Keeps, HoldsFirst, Listed, MovesSome}
use Rattle.opened.proofs.opened.Opened.list_moving.Given as goal

abbrev pub invariant-loop-event : goal.invariant-loop-event
invariant-loop-event g l = record {
  lists : (others : List Event) → HoldsFirst others l.initial.out
      → Listed (λ e. Memᴰ e (take l.event-index l.events) × MovesSome l.self (g.H.GuardHost.meaning l.host) e) others l.out (nat_lt (room l.initial.out) (length others) || l.short);
  keeps : Keeps l.initial.out l.out;
  lender : l.out.places.ghost_name ≡ l.initial.out.places.ghost_name;
}
