use Rattle.std.proofs.Common.{rules, false, true, Err, sym, ap, ◌∙◌, arith}
use Rattle.fault.specs.Asking.{answer_or}
use Rattle.fault.proofs.Refusals.{each-yes, one-no}
use Rattle.procedure.proofs.asking.ask_each.Goals as goal

pub returns-then-not-yes : goal.returns-then-not-yes
returns-then-not-yes g c f h =
    ap Err c.at.ensures.is_this_question_at_the_place ∙ ap (λ o. answer_or o tt)
    (sym (one-no c.args.question c.args.count c.loop-place.place f (search rules) (λ k lt. sym (h k true (omega arith) (c.loop-place.invariant k lt))) (sym (h c.loop-place.place false (search rules) c.if-not-yes.ensures))))

pub returns : goal.returns
returns g c f h = ap (λ o. answer_or o tt) (sym (each-yes c.args.question c.args.count f (λ k lt. sym (h k true lt (c.loop-place.invariant k (omega arith))))))
