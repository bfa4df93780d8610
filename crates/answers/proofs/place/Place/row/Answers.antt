use Rattle.std.proofs.Common.{◌∙◌, sym, arith}
use Rattle.std.proofs.lemmas.Option.{none-some}
use Rattle.diagram.specs.Valued.{values_of}
use Rattle.diagram.proofs.Short.{inner-past}
use Rattle.answers.proofs.Bits.{filled-none, filled-yes, filled-no, filled-all}
use Rattle.answers.proofs.place.Place.row.Goals as goal
use Rattle.answers.proofs.place.Place.row.Goals.{then-answer, else-answer}

pub loop-inner-init : goal.loop-inner-init
loop-inner-init g c = filled-none _

pub loop-inner-preserved : goal.loop-inner-preserved
loop-inner-preserved g c =
    elim c.if-answer.branch [
      | then-answer w ↦ rw w.row-is (filled-yes _ _ _ c.loop-inner.invariant (omega (arith, c.positions-inner-end.ensures.is_17_at_most)) (λ v is matters. sym w.if-answer.true ∙ c.answer.ensures v (c.variables.ensures.tells_the_variables ∙ is) matters))
      | else-answer w ↦ rw w.row-is (filled-no _ _ _ c.loop-inner.invariant (λ v is matters. sym w.if-answer.false ∙ c.answer.ensures v (c.variables.ensures.tells_the_variables ∙ is) matters))
    ]

pub returns : goal.returns
returns g c =
    filled-all _ _ _ c.loop-inner.invariant
    (λ j h answer v is matters. absurd (none-some v (sym (inner-past (values_of c.args.diagram.now.plan.values) c.args.self.now.binders c.args.outer j (omega (arith, h, c.positions-inner-end.ensures.tells_how_many))) ∙ is)))
