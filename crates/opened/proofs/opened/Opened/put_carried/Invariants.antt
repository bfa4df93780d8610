use Rattle.std.proofs.Common.{◌≡◌, ◌+◌, ◌*◌, ◌≤◌, length}
use Rattle.ordered.specs.Held.{held, room}
use Rattle.opened.specs.Listing.{PutIn, Keeps, CarriedBelow}
use Rattle.opened.proofs.opened.Opened.put_carried.Given as goal

abbrev pub invariant-loop-outer : goal.invariant-loop-outer
invariant-loop-outer l = record {
  puts : length (held l.initial.out) + 17 * l.outer ≤ room l.initial.out → PutIn (CarriedBelow l.self.diagram l.arrow l.outer) (held l.initial.out) (held l.out);
  grows : length (held l.out) ≤ length (held l.initial.out) + 17 * l.outer;
  keeps : Keeps l.initial.out l.out;
  lender : l.out.places.ghost_name ≡ l.initial.out.places.ghost_name;
}
