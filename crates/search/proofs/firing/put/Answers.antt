-- The row is inserted.
use Rattle.ordered.specs.Held.{held, room}
use Rattle.motions.proofs.Adds.{inserted}
use Rattle.search.proofs.firing.put.Goals as goal

pub returns-then-insert-clause-adds : goal.returns-then-insert-clause-adds
returns-then-insert-clause-adds c =
    let e = c.insert.ensures in
    (inserted (room c.args.out.now) (held c.args.out.now) (held c.insert.new.self) c.args.row c.insert.result
    c.args.out.now.rises e.says_whether_one_is_left_out e.stays_rising e.holds_nothing_else e.holds_exactly_old_and_new_unless_one_is_left_out).0
    c.if-insert.true
