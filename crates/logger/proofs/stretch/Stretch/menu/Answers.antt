use Rattle.logger.proofs.Stretches.{menu-counted}
use Rattle.logger.proofs.stretch.Stretch.menu.Goals as goal

pub invariant_of-self-2-clause-counted : goal.invariant_of-self-2-clause-counted
invariant_of-self-2-clause-counted c =
    menu-counted c.args.self.now.calls.items c.push.new.self.items c.from-places.result c.args.self.now.places c.args.self.now.counted c.in_ok-push.ensures.items
