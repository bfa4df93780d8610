use Rattle.std.proofs.Common.{Some, sym, ap, ◌∙◌}
use Rattle.std.proofs.lemmas.Result.{err_from_is_err_and}
use Rattle.procedure.specs.Drawings.{grown}
use Rattle.procedure.proofs.Fitting.{fits-sound}
use Rattle.procedure.proofs.Stepping.{here-is, whole_is, fields-stop, entry-decides}
use Rattle.procedure.proofs.draft.Draft.read.Goals as goal

pub returns-in_err-entry : goal.returns-in_err-entry
returns-in_err-entry c =
    let p = err_from_is_err_and c.from_residual-in_err-entry.result c.from_residual-in_err-entry.ensures.1 in
    let f = c.in_ok-frame.ensures.frames_the_record_or_says_the_first_no in
    let g = c.in_err-entry.ensures.tells_the_entry_or_that_a_field_is_out_of_range in
    rw (p.1, p.2) (fields-stop c.args.here.now.bytes.now c.args.here.now.at c.args.here.now.place c.in_ok-frame.frame.kind f.0 f.1 f.2 c.args.self.now g.0 ∙ ap Some (sym g.1))

pub admit-requires : goal.admit-requires
admit-requires c =
    let g = c.in_ok-entry.ensures.tells_the_entry_or_that_a_field_is_out_of_range in
    rw g.1 (fits-sound c.in_ok-frame.frame.kind c.args.here.now.bytes.now c.args.here.now.at g.0)

pub returns-in_err-admit : goal.returns-in_err-admit
returns-in_err-admit c =
    let p = err_from_is_err_and c.from_residual-in_err-admit.result c.from_residual-in_err-admit.ensures.1 in
    let f = c.in_ok-frame.ensures.frames_the_record_or_says_the_first_no in
    let g = c.in_ok-entry.ensures.tells_the_entry_or_that_a_field_is_out_of_range in
    let d = entry-decides c.args.here.now.bytes.now c.args.here.now.at c.args.here.now.place c.in_ok-frame.frame.kind f.0 f.1 f.2 c.args.self.now g.0 in
    rw (p.1, p.2) (d ∙ rw g.1 at c.in_err-admit.ensures)

pub returns : goal.returns
returns c =
    let f = c.in_ok-frame.ensures.frames_the_record_or_says_the_first_no in
    let g = c.in_ok-entry.ensures.tells_the_entry_or_that_a_field_is_out_of_range in
    let h = rw g.1 at c.in_ok-admit.ensures in
    let d = entry-decides c.args.here.now.bytes.now c.args.here.now.at c.args.here.now.place c.in_ok-frame.frame.kind f.0 f.1 f.2 c.args.self.now g.0 in
    (h.0 ∙ ap (grown c.args.self.now) (sym (here-is c.args.here.now.bytes.now c.args.here.now.at c.in_ok-frame.frame.kind f.1)), d ∙ h.1, f.3, rw f.3 (whole_is c.args.here.now.bytes.now c.args.here.now.at f.0))
