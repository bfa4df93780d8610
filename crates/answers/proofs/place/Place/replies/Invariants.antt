use Rattle.std.proofs.Common.{◌≡◌, ℕ, ◌<◌, [], length, get_or}
use Rattle.rules.specs.Chains.{answers_after}
use Rattle.answers.specs.Answering.{IsRow}
use Rattle.answers.proofs.place.Place.replies.Given as goal

abbrev pub invariant-loop-outer : goal.invariant-loop-outer
invariant-loop-outer g l =
    (length l.rows ≡ 17)
    × ((outer : ℕ) → outer < l.outer → IsRow l.diagram (answers_after (g.H.GuardHost.meaning l.host) [] l.event) l.event l.self outer (get_or l.rows outer 0))
