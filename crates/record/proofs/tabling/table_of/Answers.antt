use Rattle.std.proofs.Common.{◌≡◌, ◌-◌, Ok, replicate, refl, ap, ◌∙◌, rules, arith}
use Rattle.std.proofs.lemmas.List.{drop-replicate, length_push}
use Rattle.std.proofs.lemmas.Result.{err_from_is_err_and}
use Rattle.record.proofs.Below.{all_from, all-stop}
use Rattle.record.proofs.Tables.{each-more, filled}
use Rattle.record.proofs.tabling.table_of.Goals as goal

pub loop-i-init : goal.loop-i-init
loop-i-init g c = ((λ k lt. absurd (omega arith)), rw c.new-table.ensures.holds_nothing refl, c.new-table.ensures.is_blank_elsewhere ∙ ap (λ k. replicate k c.args.blank) (omega arith))

pub returns-in_err-read : goal.returns-in_err-read
returns-in_err-read g c fits x place h =
    let p = err_from_is_err_and c.from_residual.result c.from_residual.ensures.1 in
    let r = h c.loop-i.i _ (omega (arith, c.loop-i-test.true, c.from-i-end.ensures)) c.in_err-read.ensures in
    rw (p.1, p.2) (all-stop fits c.args.count c.loop-i.i (omega (arith, c.loop-i-test.true, c.from-i-end.ensures)) r.0, r.1)

pub push-requires : goal.push-requires
push-requires g c = (search rules, omega (arith, c.loop-i.invariant.1, c.loop-i-test.true, c.from-i-end.ensures, c.requires.0))

pub loop-i-preserved : goal.loop-i-preserved
loop-i-preserved g c =
    let i = c.loop-i.invariant in
    let e = c.push.ensures.holds_one_more in (
      rw e (each-more c.args.blank (λ k y. goal.F-post g c.args.read k (Ok y)) c.loop-i.table.items _ c.loop-i.i i.1 i.0 c.in_ok-read.ensures),
      rw (e, length_push) (omega (arith, i.1)),
      rw (c.push.ensures.takes_a_spare_place, i.2) (drop-replicate 1 (g.row.N - c.loop-i.i) c.args.blank ∙ ap (λ k. replicate k c.args.blank) (omega arith)),
    )

pub returns : goal.returns
returns g c fits x place h =
    let i = c.loop-i.invariant in
    let n : c.loop-i.i ≡ c.args.count = omega (arith, c.loop-i-test.false, c.from-i-end.ensures, c.loop-i.auto) in
    (all_from fits c.args.count (λ k lt. (h k _ lt (i.0 k (omega arith))).0), filled c.args.blank g.row.N c.args.count x c.loop-i.table (λ k lt. (h k _ lt (i.0 k (omega arith))).1) (i.1 ∙ n) (rw n at i.2))
