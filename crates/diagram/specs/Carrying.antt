-- The events that arrows can carry, one for each arrow and each pair of positions.
use Rattle.std.specs.Prelude.{◌≡◌, ℕ, ◌-◌, ◌<◌, length, Option, Some, None}
use Rattle.std.specs.List.{slice_get}
use Rattle.event.specs.Forms.{InForm}
use Rattle.event.specs.declared.event.Event.{Event}
use Rattle.host.specs.declared.variables.Variables.{Variables}
use Rattle.notation.specs.declared.arrow.Arrow.{Arrow}
use Rattle.rules.specs.Trees.{Guards, argument_of, no_variables}
use Rattle.rules.specs.Cells.{Cells}
use Rattle.rules.specs.Rules.{Step}
use Rattle.rules.specs.Candidates.{Carried, event_with}
use Rattle.diagram.specs.Valued.{values_of}
use Rattle.diagram.specs.Plans.{nodes_of, arrows_in, tree_at}
use Rattle.diagram.specs.Scopes.{binders_at, variables_at, positions_of}
use Rattle.diagram.specs.declared.diagram.Diagram.{Diagram}

-- the event of an arrow under variables, if there are such
abbrev pub event_under : Arrow → Option Variables → Option Event
event_under w None = None
event_under w (Some v) = Some (event_with w.label (argument_of w.first v) (argument_of w.second v))

-- the same of an arrow at two positions, if there is such an arrow
abbrev pub candidate_of : Diagram → Option Arrow → ℕ → ℕ → Option Event
candidate_of d None outer inner = None
candidate_of d (Some w) outer inner = event_under w (variables_at (values_of d.plan.values) (binders_at d.binders w.node) outer inner)

-- the event that the arrow k carries under the variables at two positions
abbrev pub candidate_at : Diagram → ℕ → ℕ → ℕ → Option Event
candidate_at d k outer inner = candidate_of d (slice_get (arrows_in d.plan) k) outer inner

-- how many positions there are for the outer variable at an arrow, by the binders above its node; none without an arrow
abbrev pub outer_positions_of : Diagram → Option Arrow → ℕ
outer_positions_of d None = 0
outer_positions_of d (Some w) = positions_of (values_of d.plan.values) (binders_at d.binders w.node).outer

-- the same for the inner one
abbrev pub inner_positions_of : Diagram → Option Arrow → ℕ
inner_positions_of d None = 0
inner_positions_of d (Some w) = positions_of (values_of d.plan.values) (binders_at d.binders w.node).inner

-- how many there are for the outer variable at the arrow k
abbrev pub outer_positions_at : Diagram → ℕ → ℕ
outer_positions_at d k = outer_positions_of d (slice_get (arrows_in d.plan) k)

-- the same for the inner one
abbrev pub inner_positions_at : Diagram → ℕ → ℕ
inner_positions_at d k = inner_positions_of d (slice_get (arrows_in d.plan) k)

-- some arrow carries the event under the variables at two of its positions
pub record IsCandidate (d : Diagram) (e : Event) : Type 0 where
  pub arrow : ℕ
  pub outer : ℕ
  pub inner : ℕ
  pub is_arrow : arrow < length (arrows_in d.plan)
  pub outer_is_position : outer < outer_positions_at d arrow
  pub inner_is_position : inner < inner_positions_at d arrow
  pub carries : candidate_at d arrow outer inner ≡ Some e

-- every event in form that some arrow of the root's tree carries, under some values of the binders above it, is a candidate
abbrev pub CarriedIsCandidate : Type 0
CarriedIsCandidate = (d : Diagram) (e : Event) → InForm e → Carried (tree_at d.plan (length (nodes_of d.plan) - 1)) e no_variables → IsCandidate d e

-- so is every event in form that moves some cells of the root, by whatever guards answer, is a candidate
abbrev pub CandidatesAreComplete : Type 0
CandidatesAreComplete =
    (d : Diagram) (g : Guards) (e : Event) (r r' : Cells) → InForm e
    → Step (tree_at d.plan (length (nodes_of d.plan) - 1)) g e no_variables r r' → IsCandidate d e

-- an arrow carries an event only at its positions
abbrev pub CandidatesAreAtPositions : Type 0
CandidatesAreAtPositions =
    (d : Diagram) (k outer inner : ℕ) (e : Event) → candidate_at d k outer inner ≡ Some e → (outer < outer_positions_at d k) × (inner < inner_positions_at d k)
