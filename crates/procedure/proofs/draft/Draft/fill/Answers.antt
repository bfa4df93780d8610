use Rattle.std.proofs.Common.{arith}
use Rattle.std.proofs.lemmas.Result.{err_from_is_err_and}
use Rattle.procedure.proofs.Reached.{reached-more, reached-all, reached-stop}
use Rattle.procedure.proofs.draft.Draft.fill.Goals as goal

pub returns-in_err-at : goal.returns-in_err-at
returns-in_err-at c =
    let p = err_from_is_err_and c.from_residual.result c.from_residual.ensures.1 in
    rw (p.1, p.2) (reached-stop c.args.bytes.now c.loop-place.place c.loop-place.at c.loop-place.self c.in_err-at.field-0.0 c.if-bytes-gt-MOST_BYTES.false c.loop-place.invariant c.if-at-bytes.false c.in_err-at.ensures)

pub loop-place-preserved : goal.loop-place-preserved
loop-place-preserved c =
    let s = c.in_ok-at.ensures in
    reached-more c.args.bytes.now c.loop-place.place c.loop-place.at c.in_ok-at.at c.loop-place.self c.read.new.self c.loop-place.invariant c.if-at-bytes.false s.1 s.0 s.2 s.3

pub returns-after-loop-place : goal.returns-after-loop-place
returns-after-loop-place c =
    reached-all c.args.bytes.now c.loop-place.place c.loop-place.at c.loop-place.self c.if-bytes-gt-MOST_BYTES.false c.loop-place.invariant (let low = c.loop-place.invariant.low in omega (arith, c.loop-place-test.false))

pub returns-then-at-bytes : goal.returns-then-at-bytes
returns-then-at-bytes c =
    reached-all c.args.bytes.now c.loop-place.place c.loop-place.at c.loop-place.self c.if-bytes-gt-MOST_BYTES.false c.loop-place.invariant c.if-at-bytes.true
