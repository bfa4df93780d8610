use Rattle.std.specs.Prelude.{is_ok}
use Rattle.logger.proofs.Stretches.{offer-counted}
use Rattle.logger.proofs.stretch.Stretch.offer.Goals as goal

pub invariant_of-self-clause-counted : goal.invariant_of-self-clause-counted
invariant_of-self-clause-counted c =
    offer-counted (is_ok c.push.result) c.args.self.now.calls.items c.push.new.self.items c.args.event c.args.self.now.places c.args.self.now.counted c.push.ensures.items
