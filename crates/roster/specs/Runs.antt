-- Types by first value and count, and the setting of one.
use Rattle.std.specs.Prelude.{ℕ, ◌+◌, Bool, true, ◌&&◌, List, [], ◌∷◌, Some, None, Ok, Err, Option, Result, nat_le, slice_index_or, slice_set}
use Rattle.std.specs.List.{range_with_len}
use Rattle.fault.specs.Asking.{Asked, asked_of_fields}
use Rattle.fault.specs.declared.fault.Fault.{Fault}
use Rattle.fault.specs.declared.fault.Question.TheVariants.{SettingInRange}
use Rattle.roster.specs.declared.range.Range.{Range}

-- at most 16 values, the last of them at most 65,535
abbrev pub range_fits : ℕ → ℕ → Bool
range_fits first count = nat_le count 16 && nat_le (first + count) 65536

-- an entry's run of values fits, if it has one; a table has only such entries
abbrev pub in_range : Option Range → Bool
in_range None = true
in_range (Some s) = range_fits s.first s.count

-- the values of an entry: first, first + 1, and so on, count of them; without an entry, unknown
abbrev pub range_values : Option Range → Option (List ℕ)
range_values None = None
range_values (Some s) = Some (range_with_len s.first s.count)

-- the values of a type by its entry in the table, which ends at type 7; a type past it is unknown
abbrev pub ranges_values : List (Option Range) → ℕ → Option (List ℕ)
ranges_values entries ty = range_values (slice_index_or entries ty None)

-- question 19 of the fields of a range: type, first, count; what first and count have together is asked at count
abbrev pub range_asks : ℕ → ℕ → ℕ → List Asked
range_asks ty first count = asked_of_fields SettingInRange 0 (nat_le ty 7 ∷ nat_le first 65535 ∷ range_fits first count ∷ [])

-- the table after a setting: a refusal changes nothing
abbrev pub entries_after : Result (Unit {0}) Fault → List (Option Range) → ℕ → Range → List (Option Range)
entries_after (Ok u) entries ty s = slice_set entries ty (Some s)
entries_after (Err f) entries ty s = entries
