use Rattle.std.proofs.Common.{◌≡◌, ◌∙◌, ap, List, take, Decides, rules}
use Rattle.std.proofs.lemmas.Iterator.Search.{any_from_yields_List}
use Rattle.std.proofs.lemmas.Iterator.{YieldsList-from_slice}
use Rattle.std.proofs.iter.Serving.{serving}
use Rattle.row.specs.declared.row.Row.{Row}
use Rattle.rules.specs.Candidates.{has_one}
use Rattle.rules.specs.Moves.{moves}
use Rattle.search.specs.Searching.{successors}
use Rattle.motions.specs.Ways.{Any}
use Rattle.rules.specs.Trees.{no_variables}
use Rattle.rules.specs.Cells.{Cells, fit}
use Rattle.std.specs.List.{list_any}
use Rattle.opened.specs.Opens.{tree_of_opened}
use Rattle.opened.proofs.Moving.{any-of-map, root-in-place, root-decides}
use Rattle.opened.proofs.opened.Opened.moves_by.Goals as goal

pub any-requires-clause-callable : goal.any-requires-clause-callable
any-requires-clause-callable c = grind (serving, root-in-place c.args.self.now)

pub returns : goal.returns
returns c =
    let o = c.args.self.now in
    let a = c.args.answers.now in
    let t = tree_of_opened o in
    let cells = λ (row : Row). fit o.held.width row.cells in
    λ guards agrees.
    let test = λ (r : Cells). has_one (moves t guards a.event no_variables r) in
    any_from_yields_List (λ (row : Row). test (cells row)) _ _ c.any.result c.any.ensures.ran (YieldsList-from_slice c.rows.result.now c.iter.ensures.rest)
    (λ x b q k.
    let d : (q ≡ _) × Decides b (Any (successors o.diagram a guards o.root x.now)) = (search rules, search rules) in
    (d.0, root-decides o a guards x.now b d.1))
    ∙ ap (λ (l : List Row). list_any (λ (row : Row). test (cells row)) l) c.rows.ensures.are_those_in_use
    ∙ any-of-map test cells (take o.held.used o.held.rows)
