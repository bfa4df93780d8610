use Rattle.std.proofs.Common.{◌≡◌, ℕ, ◌-◌, ◌<◌, length, get_or, replicate, Ok}
use Rattle.record.proofs.tabling.table_of.Given as goal

abbrev pub invariant-loop-i : goal.invariant-loop-i
invariant-loop-i g l =
    ((k : ℕ) → k < l.i → goal.F-post g l.read k (Ok (get_or l.table.items k l.fn.blank)))
    × (length l.table.items ≡ l.i) × (l.table.spare ≡ replicate (g.row.N - l.i) l.fn.blank)
