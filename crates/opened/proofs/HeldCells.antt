-- The cells of a held state, read from its row.
use Rattle.std.proofs.Common.{◌≡◌, sym, ◌∙◌, ap, subst, ℕ, ltb, List, length, take, Option, Some, None, is_some, IfSome, option_map, option_copied, slice_index_or, Bor, refl}
use Rattle.std.proofs.lemmas.Bool.{ltb-true, ltb-false}
use Rattle.std.proofs.lemmas.List.Elements.{All-get_or}
use Rattle.std.proofs.lemmas.Option.{slice_get_within, slice_get_past, slice_get_read, slice_get-map, get_or_from_slice_get}
use Rattle.std.specs.List.{slice_get}
use Rattle.row.specs.declared.row.Row.{Row}
use Rattle.rules.specs.Cells.{fit}
use Rattle.opened.specs.States.{states_in, cell_of, cell_in}
use Rattle.opened.specs.declared.held.Held.{Held}

-- a cell that is looked up and copied
pub copied-cell : (r : Option (Bor ℕ)) (cs : List ℕ) (k : ℕ) → is_some r ≡ ltb k (length cs) → IfSome r (λ x. x.now ≡ slice_index_or cs k x.now) → option_copied r ≡ slice_get cs k
copied-cell None cs k e is = sym (slice_get_past cs k (ltb-false k (length cs) (sym e)))
copied-cell (Some x) cs k e is = sym (slice_get_read cs (length cs) k x.now refl (ltb-true k (length cs) (sym e)) is)

-- the cells of a row in use are those of its state, filled up with 0
pub held-cell : (h : Held) (i k : ℕ) (row : Row) → slice_get (take h.used h.rows) i ≡ Some row → slice_get row.cells k ≡ cell_in (states_in h) i k
held-cell h i k row e =
    let rows = take h.used h.rows in
    let cells = λ (r : Row). fit h.width r.cells in
    let filled = All-get_or (λ r. r.cells ≡ fit 48 (fit h.width r.cells)) rows i row (slice_get_within rows i row e) h.filled in
    let here : row.cells ≡ fit 48 (cells row) = subst (λ (r : Row). r.cells ≡ fit 48 (fit h.width r.cells)) (get_or_from_slice_get rows i row row e) filled in
    ap (λ cs. slice_get cs k) here ∙ ap (λ o. cell_of o k) (sym (slice_get-map cells rows i ∙ ap (option_map cells) e))
