use Rattle.std.proofs.Common.{refl, ◌∙◌, ap, ◌++◌, Result}
use Rattle.std.specs.Prelude.{codes, string_bytes}
use Rattle.std.specs.List.{range_with_len}
use Rattle.std.proofs.lemmas.Result.{on_ok_weaker}
use Rattle.fault.specs.Asking.{refusal}
use Rattle.fault.specs.declared.fault.Fault.{Fault}
use Rattle.roster.specs.Runs.{range_asks}
use Rattle.run.specs.Runs.{tree_in, ceiling_in, states}
use Rattle.text.specs.Texts.{◌⌢◌}
use Rattle.script.specs.Hosts.{host_meaning}
use Rattle.script.specs.Texts.{setting_line}
use Rattle.script.specs.declared.line.Line.TheVariants.{Range}
use Rattle.logger.specs.Sessions.{drawn_in, settled, so_far}
use Rattle.logger.proofs.Settings.{range-set}
use Rattle.logger.proofs.Turns.{at-once, on-file}
use Rattle.logger.proofs.session.Session.range.Goals as goal

pub returns : goal.returns
returns c =
    let s = c.args.self.now in
    let m = c.begin.new.self in
    let b = c.in_ok-begin.ensures in
    let l = Range c.args.ty c.args.first c.args.count in
    let e = c.set.ensures in
    let told = range-set (refusal (range_asks c.args.ty c.args.first c.args.count)) c.set.result m.ranges c.set.new.self c.args.ty (range_with_len c.args.first c.args.count)
    e.refuses_at_the_first_wrong_field e.changes_nothing_if_refused e.means_exactly_the_range_unless_refused e.leaves_other_types in
    on_ok_weaker c.say_setting.result (λ says.
    let text = says ∙ ap (λ (r : Result (Unit {0}) Fault). string_bytes m.said ++ (setting_line l r ⌢ codes "\n")) e.refuses_at_the_first_wrong_field in
    record {
      stands = at-once (drawn_in m) m.stretch.opening m.stretch.calls.items b.has_no_opening_left b.has_no_call_left (settled m) (so_far s) _ l b.stands_as_before
          (λ i. record { tree = tree_in m.run; ceiling = ceiling_in m.run; held = states m.run; now = host_meaning m.host; told = told i; said = text i })
          ∙ on-file m.file.now s.file.now (so_far s) (so_far s) l b.has_the_same_file refl;
      file = b.has_the_same_file;
      knows = b.knows_that_a_call_was_read;
    }) c.say_setting.ensures
