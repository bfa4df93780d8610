use Rattle.std.proofs.Common.{sym, arith, rules}
use Rattle.std.proofs.Output.{has_written_append, has_written_of_eq}
use Rattle.text.proofs.Items.{each_more}
use Rattle.text.proofs.each.EachDisplay.fmt.Goals as goal

pub loop-i-preserved : goal.loop-i-preserved
loop-i-preserved g c plain =
    has_written_of_eq _ _ _ _ _ (sym (each_more g.T.Numbered.text c.args.self.now.first c.args.self.now.elements.now c.loop-i.i c.element-item.result (omega arith)))
    (has_written_append _ _ _ _ _ _ (c.loop-i.invariant plain) (search rules))
