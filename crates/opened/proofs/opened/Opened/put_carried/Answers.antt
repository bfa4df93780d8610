use Rattle.std.proofs.Common.{◌≡◌, ◌∙◌, refl, ap, length, arith}
use Rattle.ordered.specs.Held.{held}
use Rattle.diagram.proofs.Short.{no-candidate-outer}
use Rattle.opened.proofs.Putting.{put-none, put-outer, put-outers, put-exactly, keep-same, keep-more}
use Rattle.opened.proofs.opened.Opened.put_carried.Goals as goal

pub loop-outer-init : goal.loop-outer-init
loop-outer-init c = record {
  puts = λ h. put-none _ _ (λ e w. omega (arith, w.1));
  grows = omega arith;
  keeps = keep-same c.args.out.now;
  lender = refl;
}

pub loop-outer-preserved : goal.loop-outer-preserved
loop-outer-preserved c =
    let i = c.loop-outer.invariant in
    let p = c.put_carried_at.ensures in
    record {
      puts = λ h. put-outer c.args.self.now.diagram c.args.arrow c.loop-outer.outer _ _ _ (i.puts (omega arith)) (p.puts_these (omega (arith, i.grows, i.keeps.room)));
      grows = omega (arith, i.grows, p.grows);
      keeps = keep-more c.args.out.now c.loop-outer.out _ i.keeps p.keeps;
      lender = p.keeps_its_lender ∙ i.lender;
    }

pub returns-clause-puts_these : goal.returns-clause-puts_these
returns-clause-puts_these c none wide =
    let empty : length (held c.args.out.now) ≡ 0 = ap length none in
    let bound = c.outer_positions-outer-end.ensures in
    put-exactly _ (held c.args.out.now) _ none
    (put-outers c.args.self.now.diagram c.args.arrow c.outer_positions-outer-end.result c.loop-outer.outer _ _ (λ outer inner h. no-candidate-outer c.args.self.now.diagram c.args.arrow outer inner (omega (arith, h, bound.tells_how_many))) (omega arith) (omega (arith, bound.is_17_at_most))
    (c.loop-outer.invariant.puts (omega (arith, bound.is_17_at_most))))
