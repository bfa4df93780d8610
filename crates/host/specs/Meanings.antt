-- What a guard host means.
use Rattle.std.specs.Prelude.{◌≡◌, ℕ, Bool, List, ◌++◌}
use Rattle.event.specs.declared.event.Event.{Event}
use Rattle.host.specs.declared.variables.Variables.{Variables}

-- a yes or no for every list of events still to be told, guard, event and variables
abbrev pub Meaning : Type 0
Meaning = List Event → ℕ → Event → Variables → Bool

-- a host that meant `before` means `after` once it was told the events of a list, in order:
-- for each list w still to come the answer is the former one for those events followed by w
abbrev pub Told : Meaning → List Event → Meaning → Type 0
Told before events after =
    (w : List Event) (guard : ℕ) (e : Event) (v : Variables) → after w guard e v ≡ before (events ++ w) guard e v
