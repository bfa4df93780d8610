-- What lies from the key's place up to the next one's is within the table.
use Rattle.std.proofs.Common.{◌≤◌, ◌+◌, ◌-◌, ap, List, ℕ, length, take, drop, slice_index, arith}
use Rattle.diagram.proofs.keyed_arrows.KeyedArrows.of.Goals as goal

pub slice_bounds-result-count : goal.slice_bounds-result-count
slice_bounds-result-count c = rw (c.from-from.ensures, c.from-to.ensures) c.requires.has_its_place.in_order

pub slice_bounds-result-start : goal.slice_bounds-result-start
slice_bounds-result-start c = slice_bounds-result-count c

pub slice_bounds-result-end : goal.slice_bounds-result-end
slice_bounds-result-end c =
    let to = c.from-to.ensures in
    let inside = c.requires.has_its_place.in_table in
    let all = ap length c.as_slice.ensures.is_what_it_holds in
    let within : c.from-to.result ≤ length c.as_slice.result.now = omega arith in
    within

pub returns : goal.returns
returns c =
    let a = c.args.self.now in
    let from = slice_index a.starts c.args.value in
    let to = slice_index a.starts (c.args.value + 1) in
    rw (c.from-from.ensures, c.from-to.ensures) (ap (λ (xs : List ℕ). take (to - from) (drop from xs)) c.as_slice.ensures.is_what_it_holds)
