-- Whether some held state is finished.
use Rattle.std.proofs.Common.{◌≡◌, refl, sym, ◌∙◌, ap, ℕ, Bool, ◌||◌, List, [], ◌∷◌}
use Rattle.std.specs.List.{list_any}
use Rattle.row.specs.declared.row.Row.{Row}
use Rattle.rules.specs.Trees.{Tree}
use Rattle.rules.specs.Cells.{fit, width, finished}
use Rattle.rules.specs.Ends.{some_finished}
use Rattle.motions.specs.Framing.{part_at}
use Rattle.diagram.specs.Parts.{part_tree, part_width}
use Rattle.diagram.specs.declared.part.Part.{Part}
use Rattle.opened.specs.States.{states_in}
use Rattle.opened.specs.Opens.{tree_of_opened}
use Rattle.opened.specs.declared.opened.Opened.{Opened}
use Rattle.opened.proofs.Filled.{firsts}
use Rattle.opened.proofs.Advances.{rows_in, root-last, width-is}

-- rows are finished as their first cells are
over-firsts : (t : Tree) (n : ℕ) (rows : List Row) → list_any (λ (row : Row). finished t (fit n row.cells)) rows ≡ some_finished t (firsts n rows)
over-firsts t n [] = refl
over-firsts t n (x ∷ rows) = ap (λ (b : Bool). finished t (fit n x.cells) || b) (over-firsts t n rows)

-- whether a part of a row is finished
abbrev pub part_finished : Opened → Part → Row → Bool
part_finished o p row = finished (part_tree o.diagram p) (part_at (part_width o.diagram p) row.cells p.at)

-- some row is finished at the root where some state is
pub finished-over : (o : Opened) → list_any (λ (row : Row). part_finished o o.root row) (rows_in o) ≡ some_finished (tree_of_opened o) (states_in o.held)
finished-over o =
    ap (λ (p : Part). list_any (λ (row : Row). part_finished o p row) (rows_in o)) (root-last o).1
    ∙ over-firsts (tree_of_opened o) (width (tree_of_opened o)) (rows_in o)
    ∙ ap (λ (n : ℕ). some_finished (tree_of_opened o) (firsts n (rows_in o))) (sym (width-is o))
