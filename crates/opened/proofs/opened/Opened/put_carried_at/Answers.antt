use Rattle.std.proofs.Common.{refl, sym, ◌∙◌, arith}
use Rattle.ordered.specs.Held.{held, room}
use Rattle.diagram.proofs.Short.{no-candidate-inner}
use Rattle.opened.specs.Listing.{Keeps}
use Rattle.opened.proofs.Putting.{put-none, put-kept, kept-grows, keep-same, keep-more, keep-next, put-nothing, put-next, put-inner}
use Rattle.opened.proofs.opened.Opened.put_carried_at.Goals.{in-Some, in_default}
use Rattle.opened.proofs.opened.Opened.put_carried_at.Goals as goal

pub loop-inner-init : goal.loop-inner-init
loop-inner-init c = record {
  puts = λ h. put-none _ _ (λ e w. omega (arith, w.1));
  grows = omega arith;
  keeps = keep-same c.args.out.now;
  lender = refl;
}

pub loop-inner-preserved : goal.loop-inner-preserved
loop-inner-preserved c =
    let d = c.args.self.now.diagram in
    let k = c.args.arrow in
    let outer = c.args.outer in
    let n = c.loop-inner.inner in
    let o = c.loop-inner.out in
    let i = c.loop-inner.invariant in
    elim c.match-candidate.branch [
      | in-Some w ↦
          let is = w.insert.ensures.holds_the_first_in_order in
          let e = w.insert.ensures in
          let keeps : Keeps o w.insert.new.self = keep-next o w.insert.new.self e.keeps_its_room e.holds_no_fewer e.leaves_later_places in
          rw w.out-is
          (record {
            puts = λ h. put-next d k outer n w.in-Some.event _ _ _ (sym c.candidate.ensures.is_the_arrows_event ∙ w.in-Some.is) (i.puts (omega arith)) (put-kept (room o) (held o) _ w.in-Some.event is (omega (arith, i.grows, i.keeps.room)));
            grows = omega (arith, kept-grows (room o) (held o) _ w.in-Some.event is);
            keeps = keep-more c.args.out.now o w.insert.new.self i.keeps keeps;
            lender = e.keeps_its_lender ∙ i.lender;
          })
      | in_default w ↦
          rw w.out-is
          (record {
            puts = λ h. put-nothing d k outer n _ _ (sym c.candidate.ensures.is_the_arrows_event ∙ w.in_default.is) (i.puts (omega arith));
            grows = omega (arith, i.grows);
            keeps = i.keeps;
            lender = i.lender;
          })
    ]

pub returns-clause-puts_these : goal.returns-clause-puts_these
returns-clause-puts_these c wide =
    let bound = c.inner_positions-inner-end.ensures in
    put-inner c.args.self.now.diagram c.args.arrow c.args.outer c.inner_positions-inner-end.result c.loop-inner.inner _ _ (λ outer inner h. no-candidate-inner c.args.self.now.diagram c.args.arrow outer inner (omega (arith, h, bound.tells_how_many))) (omega arith) (omega (arith, bound.is_17_at_most))
    (c.loop-inner.invariant.puts (omega (arith, bound.is_17_at_most)))
