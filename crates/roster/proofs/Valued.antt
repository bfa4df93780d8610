-- What a run of values has at an index.
use Rattle.std.proofs.Common.{◌≡◌, ℕ, ◌+◌, cond, nat_lt, Some, None, arith}
use Rattle.std.proofs.lemmas.Grind.{common_steps}
use Rattle.std.specs.List.{range_with_len, slice_get}
use Rattle.std.proofs.lemmas.List.FromFn.{length-range_with_len, get_or-range_with_len}
use Rattle.std.proofs.lemmas.Option.{slice_get_past, slice_get-get_or}

-- first and the index below the count, and nothing from there on
pub at_index : (first count i : ℕ) → slice_get (range_with_len first count) i ≡ cond (nat_lt i count) (Some (first + i)) None
at_index first count i =
    let values = range_with_len first count in
    grind (arith, common_steps, length-range_with_len first count, slice_get_past values i, slice_get-get_or values i 0, get_or-range_with_len first count i 0)
