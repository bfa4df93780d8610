-- The values of types as they are kept, and as a roster tells them.
use Rattle.std.specs.Prelude.{ℕ, cond, List, [], length, Option, Some, None, nat_le, nat_lt, slice_index_or}
use Rattle.notation.specs.Tables.{Table}
use Rattle.rules.specs.Growing.{Values}
use Rattle.diagram.specs.declared.type_values.TypeValues.{TypeValues}

-- what stands for a type past the table's end
abbrev pub no_list : Table ℕ
no_list = record { items = []; spare = [] }

-- the values of each type; one past the table's end has none
abbrev pub values_of : TypeValues → Values
values_of v ty = (slice_index_or v.lists ty no_list).items

-- a list that fits: at most 16 values; none where it does not, or where the type is unknown
abbrev pub fitting : Option (List ℕ) → List ℕ
fitting None = []
fitting (Some xs) = cond (nat_le (length xs) 16) xs []

-- what is kept of what a roster tells: of each type from 0 to 7, the values if they fit
abbrev pub kept_of : (ℕ → Option (List ℕ)) → Values
kept_of told ty = cond (nat_lt ty 8) (fitting (told ty)) []
