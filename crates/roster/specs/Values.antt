-- What a roster tells of a type, which is unknown or has a list of different values.
use Rattle.std.specs.Prelude.{ℕ, ◌-◌, ◌<◌, cond, List, length, Some, None, Option, ◌==◌, ◌≢◌, slice_index}
use Rattle.std.specs.List.{slice_get}

-- no value stands at two places (said of places, so an own word)
abbrev pub NoneTwice : Option (List ℕ) → Type 0
NoneTwice None = Unit {0}
NoneTwice (Some xs) = (i j : ℕ) → i < j → j < length xs → slice_index xs i ≢ slice_index xs j

-- the number of values, absent if the type is unknown
abbrev pub count_of : Option (List ℕ) → Option ℕ
count_of None = None
count_of (Some xs) = Some (length xs)

-- the value at a position from 1, absent elsewhere and if the type is unknown
abbrev pub value_at : Option (List ℕ) → ℕ → Option ℕ
value_at None position = None
value_at (Some xs) position = cond (position == 0) None (slice_get xs (position - 1))
