use Rattle.std.proofs.Common.{◌≡◌, sym, ◌∙◌, ap, subst, ℕ, length, take, take_all, length-set, arith}
use Rattle.opened.proofs.Copied.{copied-more, copied-filled, none-filled}
use Rattle.opened.proofs.Filled.{firsts}
use Rattle.opened.proofs.held.Held.put.Goals as goal

pub invariant_of-self-in-loop-i : goal.invariant_of-self-in-loop-i
invariant_of-self-in-loop-i c = record {
  fits = c.loop-i.self.fits;
  filled = none-filled c.loop-i.self.width c.loop-i.self.used _ c.loop-i.invariant.0;
}

pub loop-i-preserved : goal.loop-i-preserved
loop-i-preserved c =
    let same = c.loop-i.invariant in (
      same.0,
      same.1,
      length-set c.loop-i.self.rows c.loop-i.i c.index-next-i.result ∙ same.2,
      copied-more c.loop-i.self.rows c.args.next.now c.loop-i.i c.index-next-i.result (omega (arith, same.2, c.requires.are_few, c.loop-i-test.true)) c.loop-i-test.true same.3 c.index-next-i.is,
    )

-- all are copied
copied : (c : goal.After-loop-i) → take (length c.args.next.now) c.loop-i.self.rows ≡ c.args.next.now
copied c =
    let end : c.loop-i.i ≡ length c.args.next.now = omega (arith, c.loop-i-test.false, c.loop-i.auto.i-end) in
    subst (λ (n : ℕ). take n c.loop-i.self.rows ≡ take n c.args.next.now) end c.loop-i.invariant.3 ∙ take_all _ c.args.next.now (omega arith)

pub invariant_of-self-2 : goal.invariant_of-self-2
invariant_of-self-2 c = record {
  fits = c.requires.are_few;
  filled = copied-filled c.args.self.now.width c.loop-i.self.width _ c.args.next.now (sym c.loop-i.invariant.1) (copied c) c.requires.are_filled;
}

pub returns-clause-holds_them : goal.returns-clause-holds_them
returns-clause-holds_them c = ap (λ (n : ℕ). firsts n (take (length c.args.next.now) c.loop-i.self.rows)) c.loop-i.invariant.1 ∙ ap (firsts c.args.self.now.width) (copied c.before)
