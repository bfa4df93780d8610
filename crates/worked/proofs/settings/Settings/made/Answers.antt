use Rattle.std.proofs.Common.{ap, ◌∙◌, List, [], ◌∷◌, Option, Some, slice_set}
use Rattle.host.specs.declared.tally.Tally.{Tally}
use Rattle.roster.specs.Runs.{ranges_values}
use Rattle.worked.proofs.Told.{only-type-0}
use Rattle.worked.proofs.Ten.{ten-under}
use Rattle.worked.proofs.settings.Settings.made.Goals as goal

pub returns : goal.returns
returns c =
    let set = c.in_ok-set.ensures in
    let set-2 = c.in_ok-set-2.ensures in
    let axles = only-type-0 (ranges_values c.set.new.self.entries) (ranges_values c.new-axles.result.entries) (1 ∷ 2 ∷ 3 ∷ []) set.means_exactly_the_range_unless_refused set.leaves_other_types c.new-axles.ensures.knows_no_type in
    let wheels = only-type-0 (ranges_values c.set-2.new.self.entries) (ranges_values c.new-wheels.result.entries) (1 ∷ 2 ∷ []) set-2.means_exactly_the_range_unless_refused set-2.leaves_other_types c.new-wheels.ensures.knows_no_type in
    let once =
    c.in_ok-set-3.ensures.replaces_one_entry_unless_refused
    ∙ ap (λ (l : List (Option Tally)). slice_set l 0 (Some (record { label = 8; bound = 1; told = 0 }))) c.new-once.ensures.has_none_set in
    record { the_ten_diagrams_come_out_as_worked = ten-under _ _ c.set-3.new.self.entries axles wheels once }
