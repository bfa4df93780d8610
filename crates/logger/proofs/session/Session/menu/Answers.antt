use Rattle.std.proofs.Common.{◌∙◌, ap}
use Rattle.std.proofs.lemmas.Result.{on_ok_weaker}
use Rattle.script.specs.declared.line.Line.TheVariants.{Menu}
use Rattle.logger.specs.Scripts.{Choice, choice_after}
use Rattle.logger.specs.Stretches.{waiting}
use Rattle.logger.specs.Sessions.{drawn_in, settled, so_far}
use Rattle.logger.proofs.Turns.{waits, on-file}
use Rattle.logger.proofs.session.Session.menu.Goals as goal

pub returns : goal.returns
returns c =
    let s = c.args.self.now in
    let m = c.make_room.new.self in
    let l = Menu c.args.places in
    let before = c.in_ok-make_room.ensures.stands_as_before in
    on_ok_weaker c.menu.result (λ more. record {
      stands = waits (drawn_in m) (settled m) (waiting m.stretch) (waiting c.menu.new.self) l more ∙ on-file m.file.now s.file.now (so_far m) (so_far s) l before.file before.stands;
      file = before.file;
      knows = ap (λ (k : Choice). choice_after k l) before.knows;
    }) c.menu.ensures
