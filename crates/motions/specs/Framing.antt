-- Parts of a row, and the rows that come of changing one.
use Rattle.std.specs.Prelude.{◌≡◌, ℕ, ◌+◌, ◌++◌, take, drop}
use Rattle.row.specs.declared.row.Row.{Row}
use Rattle.rules.specs.Cells.{Cells, fit}

-- the n cells from `at` on
abbrev pub part_at : ℕ → Cells → ℕ → Cells
part_at n r at = fit n (drop at r)

-- the cells r, where the n from `at` on are replaced by s
abbrev pub framed : Cells → ℕ → ℕ → Cells → Cells
framed r at n s = take at r ++ (s ++ drop (at + n) r)

-- y is the row with the cells r, where the n from `at` on are replaced by some of P
abbrev pub Framed : Cells → ℕ → ℕ → (Cells → Type 0) → Row → Type 0
Framed r at n P y = (s : Cells) × P s × (y.cells ≡ framed r at n s)
