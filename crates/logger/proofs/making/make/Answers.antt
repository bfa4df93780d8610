use Rattle.std.proofs.Common.{sym, ◌∙◌, ap, ℕ, ◌++◌, map, Option}
use Rattle.std.specs.Prelude.{string_bytes}
use Rattle.std.proofs.lemmas.Result.{on_ok_weaker}
use Rattle.procedure.specs.Reading.{reading, left_by}
use Rattle.roster.specs.Runs.{ranges_values}
use Rattle.logger.specs.Playing.{after_lines}
use Rattle.logger.specs.Stretches.{standing, line_of_call, opening_lines}
use Rattle.logger.proofs.Stretches.{as-lines}
use Rattle.logger.proofs.making.make.Goals as goal

pub returns-in-None : goal.returns-in-None
returns-in-None g c =
    let d = left_by (reading c.args.file.now) in
    let told = ranges_values c.args.ranges.now.entries in
    let s = standing c.args.run.now (g.H.GuardHost.meaning c.args.host.now) told (string_bytes c.args.said.now) in
    let cs = c.args.stretch.now.calls.items in
    on_ok_weaker c.replayed.result
    (λ made. made ∙ sym (as-lines d s cs) ∙ ap (λ (o : Option ℕ). after_lines d s (opening_lines o ++ map line_of_call cs)) (sym c.in-None.is)) (c.replayed.ensures told)
