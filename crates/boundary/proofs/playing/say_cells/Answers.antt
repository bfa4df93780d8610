use Rattle.std.proofs.Common.{sym, ◌∙◌, ap, ℕ, List, [], ◌∷◌, ◌+◌, drop, get_or, arith}
use Rattle.std.specs.Option.{unwrap_or}
use Rattle.run.specs.Runs.{states}
use Rattle.boundary.specs.Texts.{page, said}
use Rattle.boundary.proofs.Pages.{rest-said}
use Rattle.boundary.proofs.Rows.{cells-more, cells-end}
use Rattle.boundary.proofs.playing.say_cells.Goals as goal

pub loop-cell-preserved : goal.loop-cell-preserved
loop-cell-preserved c =
    let run = c.args.run.now in
    let state : List ℕ = get_or (states run) c.args.state [] in
    let inside = c.loop-cell-test.true in
    let n = c.from.ensures ∙ c.unwrap_or.ensures ∙ ap (λ o. unwrap_or o 0) c.cell.ensures.tells_the_cell in
    rest-said (drop c.loop-cell.cell state) (c.from.result ∷ []) (drop (c.loop-cell.cell + 1) state) (page c.loop-cell.out c.loop-cell.at) (page c.say-at.new.out c.say-at.result) _
    (cells-more run c.args.state c.requires.held c.loop-cell.cell c.from.result (omega (arith, inside, c.width-cell-end.ensures.is_the_roots_width)) n) c.say-at.ensures c.loop-cell.invariant

pub returns : goal.returns
returns c =
    ap (λ (t : List ℕ). said t (page c.loop-cell.out c.loop-cell.at))
    (sym (cells-end c.args.run.now c.args.state c.requires.held c.loop-cell.cell (omega (arith, c.loop-cell-test.false, c.width-cell-end.ensures.is_the_roots_width))))
    ∙ c.loop-cell.invariant
