-- Fields: two bytes each, unsigned, the low byte first.
use Rattle.std.specs.Prelude.{ℕ, ◌+◌, ◌*◌, List, slice_index}

-- the field whose low byte stands at i
abbrev pub field_at : List ℕ → ℕ → ℕ
field_at b i = slice_index b i + 256 * slice_index b (i + 1)
