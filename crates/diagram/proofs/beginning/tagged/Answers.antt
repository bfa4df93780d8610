use Rattle.std.proofs.Common.{arith}
use Rattle.diagram.proofs.Begins.{frame-tagged}
use Rattle.diagram.proofs.beginning.tagged.Goals as goal

pub returns : goal.returns
returns c =
    let l = c.args.row.full in
    frame-tagged c.args.row.cells c.fill.new.self c.args.at c.args.tag c.args.keep c.args.size c.requires.is_inside.0 (omega arith) (c.fill.ensures.after (λ y e. e))
