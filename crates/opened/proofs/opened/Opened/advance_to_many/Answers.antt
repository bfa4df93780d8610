use Rattle.opened.proofs.Taken.{found-filled}
use Rattle.opened.proofs.opened.Opened.advance_to_many.Goals as goal

pub take-requires-clause-are_filled : goal.take-requires-clause-are_filled
take-requires-clause-are_filled c =
    found-filled _ _ _ _ _ (c.in-Ok.ensures.finds_all_unless_they_are_more c.requires.are_a_hosts.0 c.requires.are_a_hosts.1)
