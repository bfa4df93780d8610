-- A table in which each answer is yes agrees with a host that says yes, about every diagram.
use Rattle.std.proofs.Common.{◌≡◌, ◌∙◌, sym, ℕ, ◌<◌, true, Some, None, ⊎_elim, arith}
use Rattle.std.proofs.lemmas.Bool.{cases_lt}
use Rattle.std.proofs.lemmas.Option.{slice_get_within}
use Rattle.host.specs.declared.variables.Variables.{Variables}
use Rattle.diagram.specs.Valued.{values_of}
use Rattle.diagram.specs.Plans.{nodes_of, arrows_in}
use Rattle.diagram.specs.Scopes.{variables_at}
use Rattle.diagram.specs.declared.binders.Binders.{Binders}
use Rattle.diagram.specs.declared.diagram.Diagram.{Diagram}
use Rattle.diagram.proofs.Short.{outer-short, inner-short}
use Rattle.answers.specs.Answering.{Agrees, AllYes, Enough}
use Rattle.answers.specs.declared.answers.Answers.{Answers}

-- where there are variables, both positions are within the table
below-17 : (d : Diagram) (b : Binders) (outer inner : ℕ) (v : Variables) → variables_at (values_of d.plan.values) b outer inner ≡ Some v → (outer < 17) × (inner < 17)
below-17 d b outer inner v is =
    (⊎_elim (λ lt. lt) (λ ge. absurd (never (outer-short d.plan.values b outer inner ge))) (cases_lt outer 17), ⊎_elim (λ lt. lt) (λ ge. absurd (never (inner-short d.plan.values b outer inner ge))) (cases_lt inner 17))
  where
    never : variables_at (values_of d.plan.values) b outer inner ≡ None → ⊥
    never none = let no : None ≡ Some v = sym none ∙ is in cc

pub willing-agrees : (d : Diagram) (a : Answers) (n m : ℕ) → Enough n m d → AllYes n a.nodes.now → AllYes m a.arrows.now → Agrees d a (λ guard v. true)
willing-agrees d a n m enough nodes arrows = record {
  nodes = λ i guard body at outer inner v is matters.
      let p = below-17 d _ outer inner v is in
      let within = slice_get_within (nodes_of d.plan) i _ at in
      nodes i outer inner (omega (arith, enough.0, within)) p.0 p.1;
  arrows = λ k guard arrow at has outer inner v is carries.
      let p = below-17 d _ outer inner v is in
      let within = slice_get_within (arrows_in d.plan) k arrow at in
      arrows k outer inner (omega (arith, enough.1, within)) p.0 p.1;
}
