use Rattle.std.proofs.Common.{◌≡◌, ◌+◌, ◌*◌, refl, arith, rules}
use Rattle.std.proofs.lemmas.Result.{err_from_is_err_and}
use Rattle.std.proofs.lemmas.Bool.{le-leb, lt-ltb}
use Rattle.record.specs.Bytes.{field_at}
use Rattle.record.specs.Decoding.{state_at}
use Rattle.record.specs.Ranges.{state_fits}
use Rattle.record.proofs.record.Record.states.Goals as goal

pub returns-in_err-table : goal.returns-in_err-table
returns-in_err-table c =
    let p = err_from_is_err_and c.from_residual-in_err-table.result c.from_residual-in_err-table.ensures.1 in
    let b = c.args.self.now.bytes.now in
    let at = c.args.self.now.at in
    let n = c.in_ok-count.ensures in
    let t = c.in_err-table.ensures (λ i. state_fits b (at + 8 + 4 * i)) (λ i. state_at b (at + 8 + 4 * i)) c.args.self.now.place
    (λ k r lt e. let q : at + (8 + 4 * k) ≡ at + 8 + 4 * k = omega arith in search rules) in
    let none = rw n.0 at t.0 in
    rw (p.1, p.2) (search rules, t.1)

pub returns : goal.returns
returns c =
    let b = c.args.self.now.bytes.now in
    let at = c.args.self.now.at in
    let n = c.in_ok-count.ensures in
    let s = c.in_ok-start.ensures in
    let t = c.in_ok-table.ensures (λ i. state_fits b (at + 8 + 4 * i)) (λ i. state_at b (at + 8 + 4 * i)) c.args.self.now.place
    (λ k r lt e. let q : at + (8 + 4 * k) ≡ at + 8 + 4 * k = omega arith in search rules) in
    let some = le-leb 1 (field_at b (at + 4)) (omega (arith, n, s)) in
    let few = le-leb (field_at b (at + 4)) 32 (omega (arith, n)) in
    let low = lt-ltb (field_at b (at + 6)) (field_at b (at + 4)) (omega (arith, n, s)) in
    (rw (some, few, low, ← n.0) t.0, rw (t.1, n.0, s.1) refl)
