use Rattle.std.proofs.Common.{◌∙◌}
use Rattle.procedure.proofs.Readings.{sound-nothing}
use Rattle.procedure.proofs.procedure.Procedure.new.Goals as goal

pub invariant_of-result : goal.invariant_of-result
invariant_of-result c =
    let nothing = c.draft.view_is ∙ c.empty-draft.ensures in
    record { few = c.draft.invariant.few-nodes; scarce = c.draft.invariant.few-arrows; drawn = sound-nothing _ nothing }
