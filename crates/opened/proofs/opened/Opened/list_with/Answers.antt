use Rattle.std.proofs.Common.{◌≡◌, refl, sym, ◌∙◌, ap, subst, ℕ, ◌⊎◌, inl, inr, Bool, true, false, ◌||◌, [], length, arith}
use Rattle.std.proofs.Math.Bool.{or-false, or-true}
use Rattle.procedure.specs.Procedures.{drawing}
use Rattle.procedure.specs.declared.procedure.Procedure.{Procedure}
use Rattle.diagram.specs.Plans.{arrows_in}
use Rattle.opened.specs.Listing.{Listed, CarriedBy, MovesSome}
use Rattle.opened.proofs.Putting.{keep-same, keep-more}
use Rattle.opened.proofs.Listed.{listed-nothing, listed-arrow}
use Rattle.opened.proofs.opened.Opened.list_with.Goals.{then-list_carried, else-list_carried}
use Rattle.opened.proofs.opened.Opened.list_with.Goals as goal

pub loop-arrow-init : goal.loop-arrow-init
loop-arrow-init g c = record {
  lists = λ empty. listed-nothing _ c.args.out.now (λ e x. omega (arith, x.0.1)) empty;
  keeps = keep-same c.args.out.now;
  lender = refl;
}

-- the answer of a round
round : (s t u : Bool) → (t ≡ true) × (u ≡ true) ⊎ (t ≡ false) × (u ≡ s) → (s || t) ≡ u
round s t u (inl e) = ap (λ (k : Bool). s || k) e.0 ∙ or-true s ∙ sym e.1
round s t u (inr e) = ap (λ (k : Bool). s || k) e.0 ∙ or-false s ∙ sym e.1

pub loop-arrow-preserved : goal.loop-arrow-preserved
loop-arrow-preserved g c =
    let i = c.loop-arrow.invariant in
    let M = MovesSome c.args.self.now (g.H.GuardHost.meaning c.args.host.now) in
    let now = c.if-list_carried.short in
    let answer : (c.loop-arrow.short || c.list_carried.result) ≡ now = round c.loop-arrow.short c.list_carried.result now
    (elim c.if-list_carried.branch [
      | then-list_carried w ↦ inl (w.if-list_carried.true, w.short-is)
      | else-list_carried w ↦ inr (w.if-list_carried.false, w.short-is)
    ]) in
    record {
      lists = λ empty. listed-arrow M c.args.self.now.diagram c.loop-arrow.arrow c.loop-arrow.out c.list_carried.new.out c.loop-arrow.short c.list_carried.result now answer
          (i.lists empty) c.list_carried.ensures.lists_those_that_move;
      keeps = keep-more c.args.out.now c.loop-arrow.out c.list_carried.new.out i.keeps c.list_carried.ensures.keeps;
      lender = c.list_carried.ensures.keeps_its_lender ∙ i.lender;
    }

pub returns-clause-lists_those_that_move : goal.returns-clause-lists_those_that_move
returns-clause-lists_those_that_move g c empty =
    let d = c.args.self.now.diagram in
    let count : c.arrow_count-arrow-end.result ≡ length (arrows_in d.plan) = c.arrow_count-arrow-end.ensures.counts_arrows ∙ ap (λ (p : Procedure). length (drawing p).arrows) c.procedure.ensures.is_the_plans in
    let all : c.loop-arrow.arrow ≡ length (arrows_in d.plan) = omega arith in
    subst (λ (n : ℕ). Listed (λ e. CarriedBy d n e × MovesSome c.args.self.now (g.H.GuardHost.meaning c.args.host.now) e) [] c.loop-arrow.out c.loop-arrow.short) all (c.loop-arrow.invariant.lists empty)
