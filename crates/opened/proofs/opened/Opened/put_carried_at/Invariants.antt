use Rattle.std.proofs.Common.{◌≡◌, ◌+◌, ◌≤◌, length}
use Rattle.ordered.specs.Held.{held, room}
use Rattle.opened.specs.Listing.{PutIn, Keeps, CarriedAt}
use Rattle.opened.proofs.opened.Opened.put_carried_at.Given as goal

abbrev pub invariant-loop-inner : goal.invariant-loop-inner
invariant-loop-inner l = record {
  puts : length (held l.initial.out) + l.inner ≤ room l.initial.out → PutIn (CarriedAt l.self.diagram l.arrow l.outer l.inner) (held l.initial.out) (held l.out);
  grows : length (held l.out) ≤ length (held l.initial.out) + l.inner;
  keeps : Keeps l.initial.out l.out;
  lender : l.out.places.ghost_name ≡ l.initial.out.places.ghost_name;
}
