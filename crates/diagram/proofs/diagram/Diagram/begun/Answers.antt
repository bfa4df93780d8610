use Rattle.std.proofs.Common.{replicate, ap, ◌∙◌, arith}
use Rattle.rules.specs.Cells.{Cells, width, initial}
use Rattle.rules.proofs.Widths.{initial-width}
use Rattle.motions.specs.Framing.{part_at}
use Rattle.motions.proofs.Frames.{part-framed}
use Rattle.diagram.specs.Plans.{tree_at}
use Rattle.diagram.proofs.diagram.Diagram.begun.Goals as goal

pub returns : goal.returns
returns c =
    let self = c.args.self.now in
    let tree = tree_at self.plan c.args.i in
    let fits = (self.measured c.args.i c.requires.is_node).1 in
    record { begins_in_an_empty_row = c.begin.ensures.begins; begins = ap (λ (r : Cells). part_at (width tree) r 0) c.begin.ensures.begins ∙ part-framed (replicate 48 0) 0 (width tree) (initial tree) (omega arith) (initial-width tree) }
