-- The order of events is total, and events that are equal in it are the same.
use Rattle.std.proofs.Common.{ap}
use Rattle.std.proofs.lemmas.Map.Lookups.{exact_unsigned, exact_pairs}
use Rattle.std.specs.Cmp.{IsTotalOrder, nat_cmp_total, on_total, then_total}
use Rattle.std.specs.Ordering.{nat_cmp}
use Rattle.ordered.specs.Order.{Order}
use Rattle.event.specs.declared.event.Event.{Event}
use Rattle.event.specs.Forms.{event_rank}

total : IsTotalOrder event_rank
total =
    then_total (on_total (λ e. e.label) nat_cmp_total)
    (then_total (on_total (λ e. e.count) nat_cmp_total)
    (then_total (on_total (λ e. e.first) nat_cmp_total) (on_total (λ e. e.second) nat_cmp_total)))

pub event_order : Order event_rank
event_order = record {
  flip = total.antisymm;
  chain = total.trans;
  same = λ x y e.
      ap (λ p. let r : Event = record { label = p.0; count = p.1.0; first = p.1.1.0; second = p.1.1.1 } in r)
      (exact_pairs nat_cmp _ exact_unsigned (exact_pairs nat_cmp _ exact_unsigned (exact_pairs nat_cmp nat_cmp exact_unsigned exact_unsigned))
      (x.label, (x.count, (x.first, x.second))) (y.label, (y.count, (y.first, y.second))) e);
}
