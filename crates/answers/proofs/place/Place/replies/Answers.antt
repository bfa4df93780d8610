use Rattle.std.proofs.Common.{◌∙◌, sym, ⊎_elim, arith}
use Rattle.std.proofs.lemmas.Bool.{cases_lt}
use Rattle.std.proofs.lemmas.Option.{none-some}
use Rattle.diagram.specs.Valued.{values_of}
use Rattle.diagram.proofs.Short.{outer-past}
use Rattle.answers.proofs.place.Place.replies.Goals as goal

pub returns : goal.returns
returns g c = λ outer inner.
    ⊎_elim
    (λ lt. c.loop-outer.invariant.1 outer lt inner)
    (λ ge v is matters. absurd (none-some v (sym (outer-past (values_of c.args.diagram.now.plan.values) c.args.self.now.binders outer inner (omega (arith, ge, c.positions-outer-end.ensures.tells_how_many))) ∙ is)))
    (cases_lt outer c.loop-outer.outer)
