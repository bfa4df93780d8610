use Rattle.std.proofs.Common.{refl}
use Rattle.std.proofs.lemmas.Result.{on_ok_weaker}
use Rattle.script.specs.declared.line.Line.TheVariants.{Offer}
use Rattle.logger.specs.Stretches.{waiting}
use Rattle.logger.specs.Sessions.{drawn_in, settled}
use Rattle.logger.proofs.Turns.{waits}
use Rattle.logger.proofs.session.Session.offer.Goals as goal

pub returns : goal.returns
returns c =
    let s = c.args.self.now in
    on_ok_weaker c.offer.result (λ more. record {
      stands = waits (drawn_in s) (settled s) (waiting s.stretch) (waiting c.offer.new.self) (Offer c.args.event) more;
      file = refl;
      knows = refl;
    }) c.offer.ensures
