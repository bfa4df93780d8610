-- Guards by tallies: how many events of a label were told, and the setting of one.
use Rattle.std.specs.Prelude.{ℕ, ◌+◌, min, Bool, false, cond, List, [], ◌∷◌, Some, None, Option, ◌==◌, nat_le, nat_lt, slice_index_or}
use Rattle.fault.specs.Asking.{Asked, asked_of_fields}
use Rattle.fault.specs.declared.fault.Question.TheVariants.{SettingInRange}
use Rattle.event.specs.declared.event.Event.{Event}
use Rattle.host.specs.declared.tally.Tally.{Tally}

-- how many events of a list have a label
abbrev pub events_of : ℕ → List Event → ℕ
events_of label [] = 0
events_of label (e ∷ w) = cond (e.label == label) (1 + events_of label w) (events_of label w)

-- the answer of an entry once the events of a list are told: yes while the events of its label told so far and those of the list
-- are together fewer than the bound; without an entry it is no
abbrev pub tally_answer : Option Tally → List Event → Bool
tally_answer None w = false
tally_answer (Some t) w = nat_lt (t.told + events_of t.label w) t.bound

-- the answer of a guard by its entry in the table, which ends at guard 31; a guard past it has none
abbrev pub tallies_answer : List (Option Tally) → List Event → ℕ → Bool
tallies_answer entries w guard = tally_answer (slice_index_or entries guard None) w

-- an entry after an event was told: one more where it has that label, stopping at 65,535
abbrev pub heard : Event → Option Tally → Option Tally
heard e None = None
heard e (Some t) = Some (record { label = t.label; bound = t.bound; told = cond (e.label == t.label) (min (t.told + 1) 65535) t.told })

-- question 19 of the fields of a tally: guard, label, bound
abbrev pub tally_asks : ℕ → ℕ → ℕ → List Asked
tally_asks guard label bound = asked_of_fields SettingInRange 0 (nat_le guard 31 ∷ nat_le label 255 ∷ nat_le bound 65535 ∷ [])
