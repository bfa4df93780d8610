-- The order of rows.
use Rattle.std.specs.Prelude.{◌≡◌, ℕ, ◌<◌, List, [], ◌∷◌, slice_index}
use Rattle.std.specs.declared.cmp.Ordering.TheVariants.{Less, Equal, Greater}
use Rattle.std.specs.declared.cmp.Ordering.{Ordering}
use Rattle.std.specs.Ordering.{ordering_then, nat_cmp}
use Rattle.ordered.specs.Held.{OrderedBy}
use Rattle.row.specs.declared.row.Row.{Row}

-- by the first cell that differs; a list that ends before that is below the longer one
abbrev pub cells_rank : List ℕ → List ℕ → Ordering
cells_rank [] [] = Equal
cells_rank [] (y ∷ ys) = Less
cells_rank (x ∷ xs) [] = Greater
cells_rank (x ∷ xs) (y ∷ ys) = ordering_then (nat_cmp x y) (cells_rank xs ys)

-- rows are ordered by the first cell that differs
abbrev pub row_rank : Row → Row → Ordering
row_rank a b = cells_rank a.cells b.cells

-- an ordered list of rows
abbrev pub OrderedRows : Type 0
OrderedRows = OrderedBy row_rank

-- two rows have the same first n cells
abbrev pub AlikeBelow : ℕ → Row → Row → Type 0
AlikeBelow n a b = (k : ℕ) → k < n → slice_index a.cells k ≡ slice_index b.cells k
