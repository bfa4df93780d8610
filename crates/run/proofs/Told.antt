-- The held states of a run, cell by cell.
use Rattle.std.proofs.Common.{◌≡◌, refl, ◌∙◌, ap, ℕ, zero, suc, ◌<◌, ◌≤◌, List, [], ◌∷◌, length, take, map, get_or, Option, Some, None, arith}
use Rattle.std.specs.Option.{unwrap_or}
use Rattle.std.proofs.lemmas.Option.{slice_get-get_or, unwrap_or-slice_get}
use Rattle.row.specs.declared.row.Row.{Row}
use Rattle.rules.specs.Cells.{Cells, fit, width}
use Rattle.rules.proofs.Widths.{length-fit}
use Rattle.opened.specs.States.{cell_of, cell_in}
use Rattle.opened.specs.declared.opened.Opened.{Opened}
use Rattle.opened.proofs.Advances.{root-short, width-is}
use Rattle.run.specs.Runs.{tree_in, tree_with, opened_with_of, states, states_of_opened}
use Rattle.run.specs.declared.run.Run.{Run}

-- a cell of a row that is cut or filled up
fit-cell : (n : ℕ) (r : Cells) (k : ℕ) → k < n → get_or (fit n r) k 0 ≡ get_or r k 0
fit-cell zero r k below = absurd (omega arith)
fit-cell (suc n) [] zero below = refl
fit-cell (suc n) [] (suc k) below = fit-cell n [] k (omega arith)
fit-cell (suc n) (x ∷ r) zero below = refl
fit-cell (suc n) (x ∷ r) (suc k) below = fit-cell n r k (omega arith)

-- rows that are cut to a width have it
each-wide : (w : ℕ) (rows : List Row) (i : ℕ) → i < length (map (λ row. fit w row.cells) rows) → length (get_or (map (λ row. fit w row.cells) rows) i []) ≡ w
each-wide w [] i below = absurd (omega arith)
each-wide w (r ∷ rows) zero below = length-fit w r.cells
each-wide w (r ∷ rows) (suc i) below = each-wide w rows i (omega arith)

wide-in : (o : Option Opened) (i : ℕ) → i < length (states_of_opened o) → length (get_or (states_of_opened o) i []) ≡ width (tree_with (opened_with_of o))
wide-in None i below = absurd (omega arith)
wide-in (Some o) i below = each-wide o.held.width (take o.held.used o.held.rows) i below ∙ width-is o

short-in : (o : Option Opened) → width (tree_with (opened_with_of o)) ≤ 48
short-in None = omega arith
short-in (Some o) = root-short o

module _ (run : Run) (i : ℕ) (below : i < length (states run)) where
  abbrev state : Cells
  state = get_or (states run) i []

  -- a held state has as many cells as the root takes
  pub as-wide : length state ≡ width (tree_in run)
  as-wide = wide-in run.opened i below

  -- a cell of it, as a run tells it
  pub told-cell : (k : ℕ) → k < width (tree_in run) → unwrap_or (cell_in (states run) i k) 0 ≡ get_or state k 0
  told-cell k inside =
      ap (λ (o : Option Cells). unwrap_or (cell_of o k) 0) (slice_get-get_or (states run) i [] below)
      ∙ unwrap_or-slice_get (fit 48 state) k 0
      ∙ fit-cell 48 state k (omega (arith, short-in run.opened))
