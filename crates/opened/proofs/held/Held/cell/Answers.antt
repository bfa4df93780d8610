use Rattle.std.proofs.Common.{◌≡◌, Some, length, take, ap, sym, refl, ◌∙◌}
use Rattle.std.proofs.lemmas.Option.{slice_get_read}
use Rattle.std.specs.List.{slice_get}
use Rattle.opened.proofs.HeldCells.{copied-cell, held-cell}
use Rattle.opened.proofs.held.Held.cell.Goals as goal

pub returns : goal.returns
returns c =
    let h = c.args.self.now in
    let row = c.in_ok-get.field-0.now in
    let of_row = c.in_ok-get.ensures.lookup in
    let of_cell = c.get-2.ensures.lookup in
    let there : slice_get (take h.used h.rows) c.args.state ≡ Some row =
    ap (λ l. slice_get l c.args.state) (sym c.rows.ensures.are_those_in_use) ∙ slice_get_read c.rows.result.now (length c.rows.result.now) c.args.state row refl of_row.3.0 of_row.1 in
    record { tells_the_cell = c.copied.ensures ∙ copied-cell c.get-2.result row.cells c.args.cell of_cell.0 of_cell.1 ∙ held-cell h c.args.state c.args.cell row there }
