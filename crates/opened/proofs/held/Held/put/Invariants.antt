use Rattle.std.proofs.Common.{◌≡◌, length, take}
use Rattle.opened.proofs.held.Held.put.Given as goal

abbrev pub invariant-loop-i : goal.invariant-loop-i
invariant-loop-i l =
    (l.self.used ≡ 0)
    × (l.self.width ≡ l.fn.self.width)
    × (length l.self.rows ≡ 128)
    × (take l.i l.self.rows ≡ take l.i l.next)
