use Rattle.procedure.proofs.Readings.{sound-whole}
use Rattle.procedure.proofs.read.ProcedureTryFromRefDraft.try_from.Goals as goal

pub invariant_of-result : goal.invariant_of-result
invariant_of-result c =
    let whole = rw (← c.draft.view_is) at c.in_ok-whole.ensures in
    record { few = c.draft.invariant.few-nodes; scarce = c.draft.invariant.few-arrows; drawn = sound-whole _ c.draft.invariant.nodes-sound c.draft.invariant.arrows-sound whole }
