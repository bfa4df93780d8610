-- The states that are held, and what is told of them.
use Rattle.std.specs.Prelude.{◌≡◌, ℕ, ◌≤◌, List, length, map, take, Option, Some, None}
use Rattle.std.specs.List.{All, slice_get}
use Rattle.row.specs.declared.row.Row.{Row}
use Rattle.rules.specs.Cells.{Cells, fit}
use Rattle.opened.specs.declared.held.Held.{Held}

-- the held states in order: of each the first cells, as many as the root takes
abbrev pub states_in : Held → List Cells
states_in h = map (λ row. fit h.width row.cells) (take h.used h.rows)

-- the first n places are exactly enough for rows that have the cells of some states, and then 0
pub record FindsAll (width : ℕ) (states : List Cells) (n : ℕ) (places : List Row) : Type 0 where
  pub fits : n ≤ length places
  pub are : map (λ row. fit width row.cells) (take n places) ≡ states
  pub filled : All (λ row. row.cells ≡ fit 48 (fit width row.cells)) (take n places)

-- a cell of a state, which is filled up with 0 to 48 cells; absent past these, and without a state
abbrev pub cell_of : Option Cells → ℕ → Option ℕ
cell_of None k = None
cell_of (Some r) k = slice_get (fit 48 r) k

-- the cell k of the state i, both from 0
abbrev pub cell_in : List Cells → ℕ → ℕ → Option ℕ
cell_in states i k = cell_of (slice_get states i) k
