use Rattle.std.proofs.Common.{refl, ◌∙◌}
use Rattle.std.proofs.lemmas.Result.{on_ok_weaker}
use Rattle.roster.specs.Runs.{ranges_values}
use Rattle.run.specs.Runs.{tree_in, ceiling_in, states}
use Rattle.script.specs.Hosts.{host_meaning}
use Rattle.script.specs.declared.line.Line.TheVariants.{Rows}
use Rattle.logger.specs.Sessions.{drawn_in, settled, so_far}
use Rattle.logger.proofs.Turns.{at-once, on-file}
use Rattle.logger.proofs.session.Session.rows.Goals as goal

pub returns : goal.returns
returns c =
    let s = c.args.self.now in
    let m = c.begin.new.self in
    let b = c.in_ok-begin.ensures in
    on_ok_weaker c.say_rows.result (λ says. record {
      stands = at-once (drawn_in m) m.stretch.opening m.stretch.calls.items b.has_no_opening_left b.has_no_call_left (settled m) (so_far s) _ Rows b.stands_as_before
          (λ i. record { tree = tree_in m.run; ceiling = ceiling_in m.run; held = states m.run; now = host_meaning m.host; told = ranges_values m.ranges.entries; said = says i })
          ∙ on-file m.file.now s.file.now (so_far s) (so_far s) Rows b.has_the_same_file refl;
      file = b.has_the_same_file;
      knows = b.knows_that_a_call_was_read;
    }) c.say_rows.ensures
