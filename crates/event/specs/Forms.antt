-- When an event is in form, its arguments, and the order of events.
use Rattle.std.specs.Prelude.{◌≡◌, ℕ, ◌<◌, ◌≤◌, cond, ◌||◌, List, [], ◌∷◌, Some, None, Option, ◌==◌, nat_le}
use Rattle.std.specs.declared.cmp.Ordering.{Ordering}
use Rattle.std.specs.Ordering.{ordering_then, nat_cmp}
use Rattle.fault.specs.Asking.{Asked, asked_of_fields}
use Rattle.fault.specs.declared.fault.Question.TheVariants.{EventInForm}
use Rattle.ordered.specs.Held.{OrderedBy}
use Rattle.event.specs.declared.event.Event.{Event}

-- the label is at most 255, there are at most two arguments, and an unused argument is 0
pub record InForm (e : Event) : Type 0 where
  pub label : e.label ≤ 255
  pub count : e.count ≤ 2
  pub first : e.count < 1 → e.first ≡ 0
  pub second : e.count < 2 → e.second ≡ 0

-- question 15 of each field: label, argument count, first and second argument
abbrev pub form_asks : Event → List Asked
form_asks e =
    asked_of_fields EventInForm 0 (
    nat_le e.label 255
    ∷ nat_le e.count 2
    ∷ (nat_le 1 e.count || e.first == 0)
    ∷ (nat_le 2 e.count || e.second == 0) ∷ []
    )

-- an argument is there where the event has that many
abbrev pub first_argument : Event → Option ℕ
first_argument e = cond (nat_le 1 e.count) (Some e.first) None

-- the second likewise
abbrev pub second_argument : Event → Option ℕ
second_argument e = cond (nat_le 2 e.count) (Some e.second) None

-- events are ordered by label, then argument count, first and second argument
abbrev pub event_rank : Event → Event → Ordering
event_rank a b =
    ordering_then (nat_cmp a.label b.label)
    (ordering_then (nat_cmp a.count b.count)
    (ordering_then (nat_cmp a.first b.first) (nat_cmp a.second b.second)))

-- an ordered list of events
abbrev pub OrderedEvents : Type 0
OrderedEvents = OrderedBy event_rank
