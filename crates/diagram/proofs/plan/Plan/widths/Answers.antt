use Rattle.std.proofs.Common.{◌<◌, ◌≤◌, ◌≢◌, length, sym, ◌∙◌, arith, below_more, length-set, get_or-set_same, get_or-set_other}
use Rattle.diagram.specs.Plans.{nodes_of}
use Rattle.diagram.proofs.Widths.{narrow}
use Rattle.diagram.proofs.plan.Plan.widths.Goals as goal

pub loop-i-preserved : goal.loop-i-preserved
loop-i-preserved c =
    let i = c.loop-i.i in
    let few : length (nodes_of c.args.self.now) ≤ 64 = c.args.self.now.procedure.few in
    let long = c.loop-i.invariant.0 in
    let within : i < length c.loop-i.widths = omega (arith, c.loop-i-test.true, c.node_count-i-end.ensures.counts_nodes) in
    let here = narrow _ c.in_ok-widths.field-0 (sym c.in_ok-widths.ensures.ok_part ∙ c.width.ensures) in (
      length-set c.loop-i.widths i c.in_ok-widths.field-0 ∙ long,
      below_more _ _
          (λ k lt. let h = c.loop-i.invariant.1 k lt in
          let other : k ≢ i = omega arith in (get_or-set_other c.loop-i.widths i k c.in_ok-widths.field-0 0 other ∙ h.0, h.1))
          (get_or-set_same c.loop-i.widths i c.in_ok-widths.field-0 0 within ∙ here.0, here.1),
    )
