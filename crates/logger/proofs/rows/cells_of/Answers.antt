use Rattle.std.proofs.Common.{◌∙◌, ap, ℕ, List, [], ◌∷◌, ◌++◌, take_all, get_or, arith}
use Rattle.std.specs.Option.{unwrap_or}
use Rattle.run.specs.Runs.{states}
use Rattle.run.proofs.Told.{as-wide}
use Rattle.logger.proofs.States.{cells-more}
use Rattle.logger.proofs.rows.cells_of.Goals as goal

pub loop-cell-preserved : goal.loop-cell-preserved
loop-cell-preserved c =
    let n = c.unwrap_or.ensures ∙ ap (λ o. unwrap_or o 0) c.cell.ensures.tells_the_cell in
    c.in_ok-push.ensures.items ∙ ap (λ (l : List ℕ). l ++ c.unwrap_or.result ∷ []) c.loop-cell.invariant
    ∙ cells-more c.args.run.now c.args.state c.requires.held c.loop-cell.cell c.unwrap_or.result (omega (arith, c.loop-cell-test.true, c.width-cell-end.ensures.is_the_roots_width)) n

pub returns : goal.returns
returns c =
    c.loop-cell.invariant
    ∙ take_all c.loop-cell.cell (get_or (states c.args.run.now) c.args.state [])
    (omega (arith, as-wide c.args.run.now c.args.state c.requires.held, c.loop-cell-test.false, c.width-cell-end.ensures.is_the_roots_width))
