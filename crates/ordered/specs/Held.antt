-- What an ordered list over lent places holds.
use Rattle.std.specs.Prelude.{ℕ, List, length, take, drop}
use Rattle.std.specs.declared.cmp.Ordering.{Ordering}
use Rattle.ordered.specs.declared.list.Ordered.{Ordered}

-- a list whose elements stand to each other by this comparison
abbrev pub OrderedBy : {X : Type 0} → (X → X → Ordering) → Type 0
OrderedBy {X} c = Ordered X (record { rank = c })

-- its elements: what stands in the places in use
abbrev pub held : {X : Type 0} {R : _} → Ordered X R → List X
held o = take o.used o.places.now

-- how many it has room for
abbrev pub room : {X : Type 0} {R : _} → Ordered X R → ℕ
room o = length o.places.now

-- what stands in the places from n on
abbrev pub places_from : {X : Type 0} {R : _} → ℕ → Ordered X R → List X
places_from n o = drop n o.places.now
