use Rattle.std.proofs.Common.{◌≡◌, ◌+◌, ◌-◌, ◌<◌, ◌≤◌, length}
use Rattle.procedure.specs.Scopes.{binders_within, binders_above}
use Rattle.procedure.proofs.draft.Draft.binders_above.Given as goal

abbrev pub invariant-loop : goal.invariant-loop
invariant-loop l =
    (l.above + binders_within (length l.self.nodes - l.counter) l.self.nodes l.at ≡ binders_above l.self.nodes l.node)
    × (l.at < 64) × (l.above ≤ l.counter)
