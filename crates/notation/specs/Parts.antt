-- What a node names: its children, whether it binds a variable over a type, and its states; and what an arrow's argument needs.
use Rattle.std.specs.Prelude.{ℕ, Bool, true, false, List, [], ◌∷◌, ◌++◌, length, Some, None, Option}
use Rattle.std.specs.Option.{option_to_list}
use Rattle.notation.specs.declared.node.State.{State}
use Rattle.notation.specs.declared.node.Mark.TheVariants.{Unmarked}
use Rattle.notation.specs.declared.node.Node.{Node}
use Rattle.notation.specs.declared.node.Node.TheVariants.{Closure, Automaton, Sequence, Guard, Choice, Synchronisation, QuantifiedChoice, QuantifiedSynchronisation}
use Rattle.notation.specs.declared.arrow.Arrow.{Arrow}
use Rattle.notation.specs.declared.arrow.Argument.{Argument}
use Rattle.notation.specs.declared.arrow.Argument.TheVariants.{Absent, Constant, Outer, Inner}

-- what stands in a place of a table that is not in use, and what a number past the last is taken for
abbrev pub blank_state : State
blank_state = record { mark = Unmarked; child = None }

-- the same in a table of nodes
abbrev pub blank_node : Node
blank_node = Closure 0

-- the same in a table of arrows
abbrev pub blank_arrow : Arrow
blank_arrow = record { node = 0; from = 0; to = 0; label = 0; waits = false; guard = None; first = Absent; second = Absent }

-- the children of some states, in order; an elementary state has none
abbrev pub children_of_states : List State → List ℕ
children_of_states [] = []
children_of_states (s ∷ ss) = option_to_list s.child ++ children_of_states ss

-- the children of a node, in the order in which its record names them
abbrev pub children_of : Node → List ℕ
children_of (Closure body) = body ∷ []
children_of (Automaton states) = children_of_states states.table.items
children_of (Sequence first second) = first ∷ second ∷ []
children_of (Guard guard body) = body ∷ []
children_of (Choice left right) = left ∷ right ∷ []
children_of (Synchronisation left right labels) = left ∷ right ∷ []
children_of (QuantifiedChoice over body) = body ∷ []
children_of (QuantifiedSynchronisation over body labels) = body ∷ []

-- the type that a binder binds a variable over; another node has none
abbrev pub over_of : Node → Option ℕ
over_of (Closure body) = None
over_of (Automaton states) = None
over_of (Sequence first second) = None
over_of (Guard guard body) = None
over_of (Choice left right) = None
over_of (Synchronisation left right labels) = None
over_of (QuantifiedChoice over body) = Some over
over_of (QuantifiedSynchronisation over body labels) = Some over

-- a binder gives a variable a value over its body
abbrev pub binds : Node → Bool
binds (Closure body) = false
binds (Automaton states) = false
binds (Sequence first second) = false
binds (Guard guard body) = false
binds (Choice left right) = false
binds (Synchronisation left right labels) = false
binds (QuantifiedChoice over body) = true
binds (QuantifiedSynchronisation over body labels) = true

-- how many states a node has: none unless it is an automaton
abbrev pub states_of : Node → ℕ
states_of (Closure body) = 0
states_of (Automaton states) = length states.table.items
states_of (Sequence first second) = 0
states_of (Guard guard body) = 0
states_of (Choice left right) = 0
states_of (Synchronisation left right labels) = 0
states_of (QuantifiedChoice over body) = 0
states_of (QuantifiedSynchronisation over body labels) = 0

-- how many binders must be above an arrow for its argument to have a value
abbrev pub binders_for : Argument → ℕ
binders_for Absent = 0
binders_for (Constant value) = 0
binders_for Outer = 1
binders_for Inner = 2

-- whether an argument is asked for at all
abbrev pub is_absent : Argument → Bool
is_absent Absent = true
is_absent (Constant value) = false
is_absent Outer = false
is_absent Inner = false
