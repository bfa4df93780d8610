-- The table by labels has each label's arrows.
use Rattle.std.proofs.Common.{◌∙◌}
use Rattle.diagram.specs.Plans.{arrows_in}
use Rattle.diagram.specs.declared.keyed_arrows.Key.TheVariants.{Label}
use Rattle.diagram.proofs.Owned.{has-place, keyed-between}
use Rattle.diagram.proofs.diagram.Diagram.labelled_arrows.Goals as goal

pub of-requires-clause-has_its_place : goal.of-requires-clause-has_its_place
of-requires-clause-has_its_place c =
    let d = c.args.self.now in
    has-place Label (arrows_in d.plan) d.labelled d.labelled_sorted c.args.label c.requires.is_label

pub returns : goal.returns
returns c =
    let d = c.args.self.now in
    record { tells_the_arrows = c.of.ensures ∙ keyed-between Label (arrows_in d.plan) d.labelled d.labelled_sorted c.args.label c.requires.is_label }
