-- How the events of a menu are gathered.
use Rattle.std.specs.Prelude.{◌≡◌, ℕ, ◌<◌, ◌≤◌, ◌⊎◌, Bool, true, List, [], length, take, Some, nat_lt}
use mathlib.Core.List.{Memᴰ}
use Rattle.ordered.specs.Order.{Rising}
use Rattle.ordered.specs.Held.{held, room, places_from}
use Rattle.event.specs.Forms.{event_rank, OrderedEvents}
use Rattle.event.specs.declared.event.Event.{Event}
use Rattle.host.specs.Meanings.{Meaning}
use Rattle.rules.specs.Candidates.{some_moves}
use Rattle.rules.specs.Chains.{answers_after}
use Rattle.diagram.specs.Carrying.{candidate_at}
use Rattle.diagram.specs.declared.diagram.Diagram.{Diagram}
use Rattle.opened.specs.Opens.{tree_of_opened}
use Rattle.opened.specs.States.{states_in}
use Rattle.opened.specs.declared.opened.Opened.{Opened}

-- the events of X are put into a list that has room for them
pub record PutIn (X : Event → Type 0) (before after : List Event) : Type 0 where
  pub rises : Rising event_rank before → Rising event_rank after
  pub only : (e : Event) → Memᴰ e after → Memᴰ e before ⊎ X e
  pub all : (e : Event) → Memᴰ e before ⊎ X e → Memᴰ e after

-- what stays of a list over lent places that is added to: its room, what it holds at least, and what stands past what it holds
pub record Keeps (before after : OrderedEvents) : Type 0 where
  pub room : room after ≡ room before
  pub grows : length (held before) ≤ length (held after)
  pub later : (n : ℕ) → length (held after) ≤ n → places_from n after ≡ places_from n before

-- a list holds the first of some events, as many as it has room for
abbrev pub HoldsFirst : List Event → OrderedEvents → Type 0
HoldsFirst whole o = held o ≡ take (room o) whole

-- the events of X were put to some others, a list holds the first of all these, and the answer says whether it has no room for some
pub record Listed (X : Event → Type 0) (others : List Event) (out : OrderedEvents) (short : Bool) : Type 0 where
  pub whole : List Event
  pub puts : PutIn X others whole
  pub holds : HoldsFirst whole out
  pub says : short ≡ nat_lt (room out) (length whole)

-- an arrow carries the event at an outer position, and at some inner one below n
abbrev pub CarriedAt : Diagram → ℕ → ℕ → ℕ → Event → Type 0
CarriedAt d k outer n e = (inner : ℕ) × (inner < n) × (candidate_at d k outer inner ≡ Some e)

-- at some outer position below n, and some inner one
abbrev pub CarriedBelow : Diagram → ℕ → ℕ → Event → Type 0
CarriedBelow d k n e = (outer : ℕ) × (outer < n) × CarriedAt d k outer 17 e

-- by some arrow below n
abbrev pub CarriedBy : Diagram → ℕ → Event → Type 0
CarriedBy d n e = (k : ℕ) × (k < n) × CarriedBelow d k 17 e

-- the event moves a held state, where the host means `now`
abbrev pub MovesSome : Opened → Meaning → Event → Type 0
MovesSome o now e = some_moves (tree_of_opened o) (answers_after now [] e) e (states_in o.held) ≡ true
