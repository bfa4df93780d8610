-- Past as many positions as there are for it a variable has none, and there are 17 at most, since no type has more than 16 values.
use Rattle.std.proofs.Common.{◌≡◌, refl, sym, ◌∙◌, ap, subst, ℕ, zero, suc, ◌≤◌, ⊎_elim, length, Option, Some, None, arith}
use Rattle.std.proofs.lemmas.Bool.{cases_lt}
use Rattle.std.proofs.lemmas.List.{get_or_past}
use Rattle.std.proofs.lemmas.List.Elements.{All-get_or}
use Rattle.std.proofs.lemmas.Option.{slice_get_past}
use Rattle.std.specs.List.{slice_get}
use Rattle.notation.specs.Tables.{Table}
use Rattle.notation.specs.declared.arrow.Arrow.{Arrow}
use Rattle.rules.specs.Growing.{Values}
use Rattle.diagram.specs.Valued.{no_list, values_of}
use Rattle.diagram.specs.Plans.{arrows_in}
use Rattle.diagram.specs.Scopes.{given, variable_at, variables_of, variables_at, positions_of, binders_at}
use Rattle.diagram.specs.Carrying.{event_under, candidate_of, candidate_at, outer_positions_of, inner_positions_of, outer_positions_at, inner_positions_at}
use Rattle.diagram.specs.declared.binders.Binders.{Binders}
use Rattle.diagram.specs.declared.diagram.Diagram.{Diagram}
use Rattle.diagram.specs.declared.type_values.TypeValues.{TypeValues}

pub values-short : (v : TypeValues) (ty : ℕ) → length (values_of v ty) ≤ 16
values-short v ty =
    ⊎_elim
    (λ lt. All-get_or (λ list. length list.items ≤ 16) v.lists ty no_list lt v.short)
    (λ ge. subst (λ (t : Table ℕ). length t.items ≤ 16) (sym (get_or_past v.lists ty no_list ge)) (omega arith))
    (cases_lt ty (length v.lists))

pub positions-few : (v : TypeValues) (ty : Option ℕ) → positions_of (values_of v) ty ≤ 17
positions-few v None = omega arith
positions-few v (Some ty) = let s = values-short v ty in omega arith

variable-past : (values : Values) (ty : Option ℕ) (k : ℕ) → positions_of values ty ≤ k → variable_at values ty k ≡ None
variable-past values None zero h = absurd (omega arith)
variable-past values None (suc k) h = refl
variable-past values (Some ty) zero h = absurd (omega arith)
variable-past values (Some ty) (suc k) h = ap given (slice_get_past (values ty) k (omega arith))

no-inner : (x : Option (Option ℕ)) → variables_of x None ≡ None
no-inner None = refl
no-inner (Some x) = refl

module _ (values : Values) (b : Binders) (outer inner : ℕ) where
  pub outer-past : positions_of values b.outer ≤ outer → variables_at values b outer inner ≡ None
  outer-past h = ap (λ x. variables_of x (variable_at values b.inner inner)) (variable-past values b.outer outer h)

  pub inner-past : positions_of values b.inner ≤ inner → variables_at values b outer inner ≡ None
  inner-past h = ap (variables_of (variable_at values b.outer outer)) (variable-past values b.inner inner h) ∙ no-inner (variable_at values b.outer outer)

pub outer-short : (v : TypeValues) (b : Binders) (outer inner : ℕ) → 17 ≤ outer → variables_at (values_of v) b outer inner ≡ None
outer-short v b outer inner h = let f = positions-few v b.outer in outer-past (values_of v) b outer inner (omega arith)

pub inner-short : (v : TypeValues) (b : Binders) (outer inner : ℕ) → 17 ≤ inner → variables_at (values_of v) b outer inner ≡ None
inner-short v b outer inner h = let f = positions-few v b.inner in inner-past (values_of v) b outer inner (omega arith)

-- the same of an arrow
module _ (d : Diagram) where
  outer-few : (o : Option Arrow) → outer_positions_of d o ≤ 17
  outer-few None = omega arith
  outer-few (Some w) = positions-few d.plan.values (binders_at d.binders w.node).outer

  inner-few : (o : Option Arrow) → inner_positions_of d o ≤ 17
  inner-few None = omega arith
  inner-few (Some w) = positions-few d.plan.values (binders_at d.binders w.node).inner

  outer-none : (o : Option Arrow) (outer inner : ℕ) → outer_positions_of d o ≤ outer → candidate_of d o outer inner ≡ None
  outer-none None outer inner h = refl
  outer-none (Some w) outer inner h = ap (event_under w) (outer-past (values_of d.plan.values) (binders_at d.binders w.node) outer inner h)

  inner-none : (o : Option Arrow) (outer inner : ℕ) → inner_positions_of d o ≤ inner → candidate_of d o outer inner ≡ None
  inner-none None outer inner h = refl
  inner-none (Some w) outer inner h = ap (event_under w) (inner-past (values_of d.plan.values) (binders_at d.binders w.node) outer inner h)

  pub few-outer : (k : ℕ) → outer_positions_at d k ≤ 17
  few-outer k = outer-few (slice_get (arrows_in d.plan) k)

  pub few-inner : (k : ℕ) → inner_positions_at d k ≤ 17
  few-inner k = inner-few (slice_get (arrows_in d.plan) k)

  pub no-candidate-outer : (k outer inner : ℕ) → outer_positions_at d k ≤ outer → candidate_at d k outer inner ≡ None
  no-candidate-outer k = outer-none (slice_get (arrows_in d.plan) k)

  pub no-candidate-inner : (k outer inner : ℕ) → inner_positions_at d k ≤ inner → candidate_at d k outer inner ≡ None
  no-candidate-inner k = inner-none (slice_get (arrows_in d.plan) k)
