use Rattle.std.proofs.Common.{◌<◌, get_or, length, arith}
use Rattle.notation.specs.Parts.{blank_arrow}
use Rattle.procedure.proofs.Wholes.{arrow-node}
use Rattle.procedure.proofs.draft.Draft.arrow_fits.Goals as goal

pub binders_above-above-requires : goal.binders_above-above-requires
binders_above-above-requires c =
    let lt = rw (← c.self.view_is) at c.requires in
    let n : (get_or c.self.inside.arrows.items c.args.number blank_arrow).node < length c.self.inside.nodes.items = arrow-node c.self.inside.nodes.items c.self.inside.arrows.items c.args.number c.self.invariant.arrows-sound lt in
    let few = c.self.invariant.few-nodes in
    rw (c.from.ensures, c.as_slice.ensures.is_what_it_holds) (omega arith)
