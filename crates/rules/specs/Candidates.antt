-- The events that an arrow of a diagram can carry, so that a menu can be complete; and the menu, computed.
use Rattle.std.specs.Prelude.{ℕ, zero, suc, Bool, true, false, ◌⊎◌, List, [], ◌∷◌, ◌++◌, map, Option, Some, None}
use Rattle.std.specs.List.{filter, flat_map, list_any}
use mathlib.Core.List.{Memᴰ}
use Rattle.event.specs.Forms.{event_rank}
use Rattle.event.specs.declared.event.Event.{Event}
use Rattle.host.specs.Meanings.{Meaning}
use Rattle.host.specs.declared.variables.Variables.{Variables}
use Rattle.rules.specs.Trees.{NumberedArrow, Tree, elementary, automaton, sequence, closure, guarded, choice, synchronisation, quantified_choice, quantified_synchronisation, no_variables, bound, Guards, argument_of}
use Rattle.rules.specs.Cells.{Cells}
use Rattle.rules.specs.Rules.{Carries}
use Rattle.rules.specs.Chains.{answers_after}
use Rattle.rules.specs.Moves.{moves}
use Rattle.rules.specs.Ends.{arranged, ends}

-- Some arrow of the tree carries the event under some values of the binders above it.
abbrev pub Carried : Tree → Event → Variables → Type 0
Carried elementary e v = ⊥
Carried (automaton count start mark child arrows) e v = ((a : NumberedArrow) × Memᴰ a arrows × Carries a.arrow e v) ⊎ ((q : ℕ) × Carried (child q) e v)
Carried (sequence a b) e v = Carried a e v ⊎ Carried b e v
Carried (closure b) e v = Carried b e v
Carried (guarded guard b) e v = Carried b e v
Carried (choice a b) e v = Carried a e v ⊎ Carried b e v
Carried (synchronisation labels a b) e v = Carried a e v ⊎ Carried b e v
Carried (quantified_choice xs b) e v = (x : ℕ) × Memᴰ x xs × Carried b e (bound x v)
Carried (quantified_synchronisation xs labels b) e v = (x : ℕ) × Memᴰ x xs × Carried b e (bound x v)

-- the event of a label with these arguments; a second one needs a first
abbrev pub event_with : ℕ → Option ℕ → Option ℕ → Event
event_with label None second = record { label = label; count = 0; first = 0; second = 0 }
event_with label (Some x) None = record { label = label; count = 1; first = x; second = 0 }
event_with label (Some x) (Some y) = record { label = label; count = 2; first = x; second = y }

-- the event that an arrow carries under the variables
abbrev pub event_of : Variables → NumberedArrow → Event
event_of v a = event_with a.arrow.label (argument_of a.arrow.first v) (argument_of a.arrow.second v)

-- what f gives for each number below n
abbrev pub in_each : (ℕ → List Event) → ℕ → List Event
in_each f zero = []
in_each f (suc n) = in_each f n ++ f n

-- the events of all arrows under all values
abbrev pub candidates : Tree → Variables → List Event
candidates elementary v = []
candidates (automaton count start mark child arrows) v = map (event_of v) arrows ++ in_each (λ q. candidates (child q) v) count
candidates (sequence a b) v = candidates a v ++ candidates b v
candidates (closure b) v = candidates b v
candidates (guarded guard b) v = candidates b v
candidates (choice a b) v = candidates a v ++ candidates b v
candidates (synchronisation labels a b) v = candidates a v ++ candidates b v
candidates (quantified_choice xs b) v = flat_map (λ x. candidates b (bound x v)) xs
candidates (quantified_synchronisation xs labels b) v = flat_map (λ x. candidates b (bound x v)) xs

-- whether a list has an element
abbrev pub has_one : List Cells → Bool
has_one [] = false
has_one (r ∷ l) = true

-- whether an event moves some of a list
abbrev pub some_moves : Tree → Guards → Event → List Cells → Bool
some_moves t g e l = list_any (λ r. has_one (moves t g e no_variables r)) l

-- those candidates with which some chain over `events` goes on, rising, each once
abbrev pub menu : Tree → Meaning → List Event → List Event
menu t m events = arranged event_rank (filter (λ e. some_moves t (answers_after m events e) e (ends t m events)) (candidates t no_variables))
