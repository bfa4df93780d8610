use Rattle.std.proofs.Common.{refl, sym, ◌∙◌, ap}
use Rattle.std.specs.Prelude.{string_bytes}
use Rattle.std.proofs.lemmas.Result.{on_ok_weaker}
use Rattle.roster.specs.Runs.{ranges_values}
use Rattle.script.specs.Hosts.{host_meaning, kind_of}
use Rattle.script.specs.declared.hosting.Host.TheVariants.{Limits, Tallies}
use Rattle.logger.specs.Playing.{after_lines}
use Rattle.logger.specs.Stretches.{standing, waiting}
use Rattle.logger.specs.Sessions.{drawn_in}
use Rattle.logger.specs.declared.stretch.Stretch.{Stretch}
use Rattle.logger.proofs.Stretches.{none-wait}
use Rattle.logger.proofs.session.Session.finish.Goals as goal

pub returns-in-Limits-clause-stands_as_with_them : goal.returns-in-Limits-clause-stands_as_with_them
returns-in-Limits-clause-stands_as_with_them c =
    let s = c.args.self.now in
    let d = drawn_in s in
    let told = ranges_values s.ranges.entries in
    let said = string_bytes s.said in
    let after = c.replace-stretch.ensures.after in
    let left = c.replace-stretch.new.dest in
    let none = none-wait left.opening left.calls.items (ap (λ (x : Stretch). x.opening) after ∙ c.new.ensures.has_no_opening) (ap (λ (x : Stretch). x.calls.items) after ∙ c.new.ensures.has_no_calls) in
    on_ok_weaker c.make.result (λ made. record {
      stands =
          ap (after_lines d (standing c.make.new.run (host_meaning (Limits c.make.new.host)) told (string_bytes c.make.new.said))) none
          ∙ made
          ∙ (λ i. after_lines d (standing s.run (host_meaning (sym c.in-Limits.is i)) told said) (waiting (c.replace-stretch.ensures.value i)));
      file = refl;
      knows = λ i. record { kind = kind_of (sym c.in-Limits.is i); begun = s.begun };
    }) c.make.ensures

pub returns-clause-stands_as_with_them : goal.returns-clause-stands_as_with_them
returns-clause-stands_as_with_them c =
    let s = c.args.self.now in
    let d = drawn_in s in
    let told = ranges_values s.ranges.entries in
    let said = string_bytes s.said in
    let after = c.replace-stretch.ensures.after in
    let left = c.replace-stretch.new.dest in
    let none = none-wait left.opening left.calls.items (ap (λ (x : Stretch). x.opening) after ∙ c.new.ensures.has_no_opening) (ap (λ (x : Stretch). x.calls.items) after ∙ c.new.ensures.has_no_calls) in
    let m = c.make-in-Tallies.new in
    on_ok_weaker c.make-in-Tallies.result (λ made. record {
      stands =
          ap (after_lines d (standing m.run (host_meaning (Tallies m.host)) told (string_bytes m.said))) none
          ∙ made
          ∙ (λ i. after_lines d (standing s.run (host_meaning (sym c.in-Tallies.is i)) told said) (waiting (c.replace-stretch.ensures.value i)));
      file = refl;
      knows = λ i. record { kind = kind_of (sym c.in-Tallies.is i); begun = s.begun };
    }) c.make-in-Tallies.ensures
