use Rattle.std.proofs.Common.{◌≡◌, []}
use Rattle.ordered.specs.Held.{held}
use Rattle.opened.specs.Listing.{Keeps, Listed, CarriedBy, MovesSome}
use Rattle.opened.proofs.opened.Opened.list_with.Given as goal

abbrev pub invariant-loop-arrow : goal.invariant-loop-arrow
invariant-loop-arrow g l = record {
  lists : held l.initial.out ≡ [] → Listed (λ e. CarriedBy l.self.diagram l.arrow e × MovesSome l.self (g.H.GuardHost.meaning l.host) e) [] l.out l.short;
  keeps : Keeps l.initial.out l.out;
  lender : l.out.places.ghost_name ≡ l.initial.out.places.ghost_name;
}
