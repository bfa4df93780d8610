-- What is told of a run's held states in numbers.
use Rattle.std.proofs.Common.{◌≡◌, sym, ◌∙◌, ap, ℕ, ◌+◌, ◌<◌, ◌≤◌, List, [], ◌∷◌, ◌++◌, length, drop, get_or, arith}
use Rattle.std.specs.Option.{unwrap_or}
use Rattle.std.proofs.lemmas.List.{drop_more, drop_all}
use Rattle.rules.specs.Cells.{Cells, width}
use Rattle.opened.specs.States.{cell_in}
use Rattle.run.specs.Runs.{tree_in, states}
use Rattle.run.specs.declared.run.Run.{Run}
use Rattle.run.proofs.Told.{as-wide, told-cell}
use Rattle.boundary.specs.Playing.{cells_numbers}

module _ (run : Run) (i : ℕ) (below : i < length (states run)) where
  abbrev state : Cells
  state = get_or (states run) i []

  -- the cells from k on
  pub cells-more : (k n : ℕ) → k < width (tree_in run) → n ≡ unwrap_or (cell_in (states run) i k) 0 → drop k state ≡ (n ∷ []) ++ drop (k + 1) state
  cells-more k n inside is = drop_more state k 0 (omega (arith, as-wide run i below)) ∙ ap (λ (x : ℕ). x ∷ drop (k + 1) state) (sym (is ∙ told-cell run i below k inside))

  -- past the last
  pub cells-end : (k : ℕ) → width (tree_in run) ≤ k → drop k state ≡ []
  cells-end k past = drop_all k state (omega (arith, as-wide run i below))

-- the cells of the states from i on
pub states-more : (held : List Cells) (i : ℕ) → i < length held → cells_numbers (drop i held) ≡ get_or held i [] ++ cells_numbers (drop (i + 1) held)
states-more held i below = ap cells_numbers (drop_more held i [] below)
