-- Small diagrams, with the rows and menus that the rules give them. They stand here because a mistake in a rule shows in them at once.
use Rattle.std.specs.Prelude.{◌&&◌, ◌≡◌, ℕ, Bool, cond, true, false, ◌↔◌, List, [], ◌∷◌, Some, None, ◌==◌}
use mathlib.Core.List.{Memᴰ}
use Rattle.notation.specs.Parts.{blank_state}
use Rattle.notation.specs.declared.node.Mark.{Mark}
use Rattle.notation.specs.declared.node.Mark.TheVariants.{Unmarked, Shallow, Deep}
use Rattle.notation.specs.declared.node.State.{State}
use Rattle.notation.specs.Tables.{Table}
use Rattle.notation.specs.declared.node.Node.{Node}
use Rattle.notation.specs.declared.node.Node.TheVariants.{Closure, Automaton, Sequence, Guard, Choice, Synchronisation, QuantifiedChoice, QuantifiedSynchronisation}
use Rattle.notation.specs.declared.arrow.Arrow.{Arrow}
use Rattle.notation.specs.declared.arrow.Argument.{Argument}
use Rattle.notation.specs.declared.arrow.Argument.TheVariants.{Absent, Outer, Inner}
use Rattle.procedure.specs.Drawings.{Drawing}
use Rattle.procedure.specs.Sound.{sound}
use Rattle.event.specs.Forms.{InForm}
use Rattle.event.specs.declared.event.Event.{Event}
use Rattle.host.specs.Meanings.{Meaning}
use Rattle.host.specs.Limiting.{limits_answer}
use Rattle.host.specs.Tallying.{tallies_answer}
use Rattle.host.specs.declared.limit.Comparison.TheVariants.{Equal, Above}
use Rattle.host.specs.declared.limit.Operand.TheVariants as o
use Rattle.rules.specs.Trees.{Tree}
use Rattle.rules.specs.Cells.{Cells, finished}
use Rattle.rules.specs.Chains.{IsEnd, GoesOn}
use Rattle.rules.specs.Growing.{Values, tree_of}

-- ---- how they are written down

-- an automaton that starts in a state
abbrev pub starting_in : ℕ → List State → Node
starting_in q s = Automaton (record { start = q; table = record { items = s; spare = [] } })

-- one that starts in state 0
abbrev pub states : List State → Node
states s = starting_in 0 s

-- an elementary state without a mark
abbrev pub plain : State
plain = blank_state

-- a final one
abbrev pub final : State
final = record { mark = Shallow; child = None }

-- a state with a mark and a child
abbrev pub holding : Mark → ℕ → State
holding m k = record { mark = m; child = Some k }

-- an arrow of a node, from one state to another, on a label with a first argument or none
abbrev pub arrow : ℕ → ℕ → ℕ → ℕ → Argument → Arrow
arrow node from to label first = record { node = node; from = from; to = to; label = label; waits = false; guard = None; first = first; second = Absent }

-- one that waits
abbrev pub waiting_arrow : ℕ → ℕ → ℕ → ℕ → Arrow
waiting_arrow node from to label = record { node = node; from = from; to = to; label = label; waits = true; guard = None; first = Absent; second = Absent }

-- one with two arguments
abbrev pub arrow_of_two : ℕ → ℕ → ℕ → ℕ → Argument → Argument → Arrow
arrow_of_two node from to label first second = record { node = node; from = from; to = to; label = label; waits = false; guard = None; first = first; second = second }

-- one with a guard
abbrev pub guarded_arrow : ℕ → ℕ → ℕ → ℕ → ℕ → Arrow
guarded_arrow node from to label guard = record { node = node; from = from; to = to; label = label; waits = false; guard = Some guard; first = Absent; second = Absent }

-- a set of labels
abbrev pub set_of : List ℕ → Table ℕ
set_of ls = record { items = ls; spare = [] }

-- an event without arguments
abbrev pub bare : ℕ → Event
bare label = record { label = label; count = 0; first = 0; second = 0 }

-- with a first argument
abbrev pub with_one : ℕ → ℕ → Event
with_one label x = record { label = label; count = 1; first = x; second = 0 }

-- with a first and a second one
abbrev pub with_two : ℕ → ℕ → ℕ → Event
with_two label x y = record { label = label; count = 2; first = x; second = y }

-- type 0 has these values, and no other type has any
abbrev pub type_0_has : List ℕ → Values
type_0_has xs ty = cond (ty == 0) xs []

-- a host that says no to every guard
abbrev pub silent : Meaning
silent w guard e v = false

-- a host by tallies, of which guard 0 has one: fewer than one event of label 8
abbrev pub one_of_label_8 : Meaning
one_of_label_8 w guard e v = tallies_answer (Some (record { label = 8; bound = 1; told = 0 }) ∷ []) w guard

-- the ends of the chains over some events are these, and no others
abbrev pub EndsExactly : Tree → Meaning → List Event → List Cells → Type 0
EndsExactly t m events l = (r : Cells) → IsEnd t m events r ↔ Memᴰ r l

-- the events in form with which some chain goes on are these, and no others
abbrev pub MenuExactly : Tree → Meaning → List Event → List Event → Type 0
MenuExactly t m events l = (e : Event) → InForm e → GoesOn t m events e ↔ Memᴰ e l

-- ---- an axle is selected, measured any number of times, stored; then the next

-- nothing selected, selected, stored; the automaton stands under a choice of the axle, and that under a closure
abbrev pub axle : Drawing
axle = record {
  nodes = states (plain ∷ plain ∷ final ∷ []) ∷ QuantifiedChoice 0 0 ∷ Closure 1 ∷ [];
  arrows = arrow 0 0 1 2 Outer ∷ arrow 0 1 1 3 Outer ∷ arrow 0 1 2 4 Absent ∷ [];
}

-- its tree with the axles 1, 2, 3
abbrev pub axle_tree : Tree
axle_tree = tree_of (type_0_has (1 ∷ 2 ∷ 3 ∷ [])) axle 2

-- at first any axle can be selected, and the whole is finished
pub record AxleBegins : Type 0 where
  pub rows : EndsExactly axle_tree silent [] ((0 ∷ 0 ∷ 0 ∷ []) ∷ [])
  pub done : finished axle_tree (0 ∷ 0 ∷ 0 ∷ []) ≡ true
  pub menu : MenuExactly axle_tree silent [] (with_one 2 1 ∷ with_one 2 2 ∷ with_one 2 3 ∷ [])

-- once axle 2 is selected, only that one can be measured, or stored
pub record AxleSelected : Type 0 where
  pub rows : EndsExactly axle_tree silent (with_one 2 2 ∷ []) ((1 ∷ 2 ∷ 1 ∷ []) ∷ [])
  pub unfinished : finished axle_tree (1 ∷ 2 ∷ 1 ∷ []) ≡ false
  pub menu : MenuExactly axle_tree silent (with_one 2 2 ∷ []) (with_one 3 2 ∷ bare 4 ∷ [])
  pub other : EndsExactly axle_tree silent (with_one 2 2 ∷ with_one 3 1 ∷ []) []

-- stored, it is finished, and any axle can be selected again
pub record AxleStored : Type 0 where
  pub rows : EndsExactly axle_tree silent (with_one 2 2 ∷ bare 4 ∷ []) ((1 ∷ 2 ∷ 2 ∷ []) ∷ [])
  pub done : finished axle_tree (1 ∷ 2 ∷ 2 ∷ []) ≡ true
  pub menu : MenuExactly axle_tree silent (with_one 2 2 ∷ bare 4 ∷ []) (with_one 2 1 ∷ with_one 2 2 ∷ with_one 2 3 ∷ [])

-- ---- two sides that do not meet, and the same two that do

-- two automata of one step on label 5, synchronised on a set
abbrev pub two_sides : List ℕ → Drawing
two_sides ls = record {
  nodes = states (plain ∷ plain ∷ []) ∷ states (plain ∷ plain ∷ []) ∷ Synchronisation 0 1 (set_of ls) ∷ [];
  arrows = arrow 0 0 1 5 Absent ∷ arrow 1 0 1 5 Absent ∷ [];
}

-- with an empty set one side moves at a time: two readings of one event are kept
pub record SidesApart : Type 0 where
  pub once : EndsExactly (tree_of (type_0_has []) (two_sides []) 2) silent (bare 5 ∷ []) ((0 ∷ 1 ∷ []) ∷ (1 ∷ 0 ∷ []) ∷ [])
  pub twice : EndsExactly (tree_of (type_0_has []) (two_sides []) 2) silent (bare 5 ∷ bare 5 ∷ []) ((1 ∷ 1 ∷ []) ∷ [])

-- with the label in the set both move, once
pub record SidesTogether : Type 0 where
  pub once : EndsExactly (tree_of (type_0_has []) (two_sides (5 ∷ [])) 2) silent (bare 5 ∷ []) ((1 ∷ 1 ∷ []) ∷ [])
  pub twice : EndsExactly (tree_of (type_0_has []) (two_sides (5 ∷ [])) 2) silent (bare 5 ∷ bare 5 ∷ []) []

-- two sides that begin in different states
abbrev pub uneven_sides : Drawing
uneven_sides = record {
  nodes = starting_in 1 (plain ∷ plain ∷ []) ∷ states (plain ∷ plain ∷ []) ∷ Synchronisation 0 1 (set_of []) ∷ [];
  arrows = [];
}

-- they begin each in its own
abbrev pub UnevenSides : Type 0
UnevenSides = EndsExactly (tree_of (type_0_has []) uneven_sides 2) silent [] ((1 ∷ 0 ∷ []) ∷ [])

-- ---- a first part that may go on when it is finished, and a second part that takes the same event

-- one step and then a loop on label 6; the second part takes 6 once
abbrev pub handing_over : Drawing
handing_over = record {
  nodes = states (plain ∷ final ∷ []) ∷ states (plain ∷ plain ∷ []) ∷ Sequence 0 1 ∷ [];
  arrows = arrow 0 0 1 6 Absent ∷ arrow 0 1 1 6 Absent ∷ arrow 1 0 1 6 Absent ∷ [];
}

-- its tree; no type is named
abbrev pub handing_over_tree : Tree
handing_over_tree = tree_of (type_0_has []) handing_over 2

-- a second 6 is the first part's or the second part's: both are kept
pub record HandingOver : Type 0 where
  pub once : EndsExactly handing_over_tree silent (bare 6 ∷ []) ((0 ∷ 1 ∷ []) ∷ [])
  pub twice : EndsExactly handing_over_tree silent (bare 6 ∷ bare 6 ∷ []) ((0 ∷ 1 ∷ []) ∷ (1 ∷ 1 ∷ []) ∷ [])
  pub unfinished : finished handing_over_tree (1 ∷ 1 ∷ []) ≡ false

-- the same with a way back on 3 in the second part
abbrev pub handing_on : Drawing
handing_on = record {
  nodes = handing_over.nodes;
  arrows = arrow 0 0 1 6 Absent ∷ arrow 0 1 1 6 Absent ∷ arrow 1 0 1 6 Absent ∷ arrow 1 1 0 3 Absent ∷ [];
}

-- only the second part takes 3
abbrev pub HandingOn : Type 0
HandingOn = EndsExactly (tree_of (type_0_has []) handing_on 2) silent (bare 6 ∷ bare 6 ∷ bare 3 ∷ []) ((1 ∷ 0 ∷ []) ∷ [])

-- ---- a choice between two sides that take the same event

-- each side takes 7
abbrev pub either_side : Drawing
either_side = record {
  nodes = states (plain ∷ plain ∷ []) ∷ states (plain ∷ plain ∷ []) ∷ Choice 0 1 ∷ [];
  arrows = arrow 0 0 1 7 Absent ∷ arrow 1 0 1 7 Absent ∷ [];
}

-- both sides are kept
pub record EitherSide : Type 0 where
  pub begins : EndsExactly (tree_of (type_0_has []) either_side 2) silent [] ((0 ∷ 0 ∷ []) ∷ [])
  pub once : EndsExactly (tree_of (type_0_has []) either_side 2) silent (bare 7 ∷ []) ((1 ∷ 1 ∷ []) ∷ (2 ∷ 1 ∷ []) ∷ [])

-- the same with a way back on 3 on the left, on 4 on the right, where the state after 7 is final
abbrev pub deciding : Drawing
deciding = record {
  nodes = states (plain ∷ plain ∷ []) ∷ states (plain ∷ final ∷ []) ∷ Choice 0 1 ∷ [];
  arrows = arrow 0 0 1 7 Absent ∷ arrow 0 1 0 3 Absent ∷ arrow 1 0 1 7 Absent ∷ arrow 1 1 0 4 Absent ∷ [];
}

-- its tree; no type is named
abbrev pub deciding_tree : Tree
deciding_tree = tree_of (type_0_has []) deciding 2

-- both sides are kept until 3 or 4 comes
pub record Deciding : Type 0 where
  pub unbegun : finished deciding_tree (0 ∷ 0 ∷ []) ≡ false
  pub both : EndsExactly deciding_tree silent (bare 7 ∷ []) ((1 ∷ 1 ∷ []) ∷ (2 ∷ 1 ∷ []) ∷ [])
  pub left : finished deciding_tree (1 ∷ 1 ∷ []) ≡ false
  pub right : finished deciding_tree (2 ∷ 1 ∷ []) ≡ true
  pub left_decided : EndsExactly deciding_tree silent (bare 7 ∷ bare 3 ∷ []) ((1 ∷ 0 ∷ []) ∷ [])
  pub right_decided : EndsExactly deciding_tree silent (bare 7 ∷ bare 4 ∷ []) ((2 ∷ 0 ∷ []) ∷ [])

-- ---- a guard that holds at the first event only, and is asked at no other

-- two steps on label 8 under guard 0
abbrev pub guarded_steps : Drawing
guarded_steps = record {
  nodes = states (plain ∷ plain ∷ plain ∷ []) ∷ Guard 0 0 ∷ [];
  arrows = arrow 0 0 1 8 Absent ∷ arrow 0 1 2 8 Absent ∷ [];
}

-- the second 8 is taken though the guard would say no; there is no third step
pub record GuardedSteps : Type 0 where
  pub twice : EndsExactly (tree_of (type_0_has []) guarded_steps 1) one_of_label_8 (bare 8 ∷ bare 8 ∷ []) ((1 ∷ 2 ∷ []) ∷ [])
  pub thrice : EndsExactly (tree_of (type_0_has []) guarded_steps 1) one_of_label_8 (bare 8 ∷ bare 8 ∷ bare 8 ∷ []) []

-- the same guard over one step, started again and again: it is asked at each start
abbrev pub guarded_again : Drawing
guarded_again = record {
  nodes = states (plain ∷ final ∷ []) ∷ Guard 0 0 ∷ Closure 1 ∷ [];
  arrows = arrow 0 0 1 8 Absent ∷ [];
}

-- the second 8 would start the guard again, and it says no
pub record GuardedAgain : Type 0 where
  pub once : EndsExactly (tree_of (type_0_has []) guarded_again 2) one_of_label_8 (bare 8 ∷ []) ((1 ∷ 1 ∷ 1 ∷ []) ∷ [])
  pub done : finished (tree_of (type_0_has []) guarded_again 2) (1 ∷ 1 ∷ 1 ∷ []) ≡ true
  pub twice : EndsExactly (tree_of (type_0_has []) guarded_again 2) one_of_label_8 (bare 8 ∷ bare 8 ∷ []) []

-- ---- a guard on an arrow: it is asked at every event

-- guard 0 on the arrow of label 8; back on 9
abbrev pub guarded_way : Drawing
guarded_way = record {
  nodes = states (plain ∷ plain ∷ []) ∷ [];
  arrows = guarded_arrow 0 0 1 8 0 ∷ arrow 0 1 0 9 Absent ∷ [];
}

-- the second 8 asks the guard again, and it says no
pub record GuardedWay : Type 0 where
  pub once : EndsExactly (tree_of (type_0_has []) guarded_way 0) one_of_label_8 (bare 8 ∷ bare 9 ∷ []) ((0 ∷ []) ∷ [])
  pub twice : EndsExactly (tree_of (type_0_has []) guarded_way 0) one_of_label_8 (bare 8 ∷ bare 9 ∷ bare 8 ∷ []) []

-- ---- two wheels, each read for itself, and then both stored at once

-- for each wheel: not read, read, stored; 10 is in the set
abbrev pub wheels : Drawing
wheels = record {
  nodes = states (plain ∷ plain ∷ plain ∷ []) ∷ QuantifiedSynchronisation 0 0 (set_of (10 ∷ [])) ∷ [];
  arrows = arrow 0 0 1 9 Outer ∷ arrow 0 1 2 10 Absent ∷ [];
}

-- its tree with the wheels 1, 2
abbrev pub wheels_tree : Tree
wheels_tree = tree_of (type_0_has (1 ∷ 2 ∷ [])) wheels 1

-- 10 has a successor only once both wheels are read, and then both move
pub record Wheels : Type 0 where
  pub none_read : EndsExactly wheels_tree silent (bare 10 ∷ []) []
  pub one_read : EndsExactly wheels_tree silent (with_one 9 1 ∷ []) ((1 ∷ 0 ∷ []) ∷ [])
  pub too_early : EndsExactly wheels_tree silent (with_one 9 1 ∷ bare 10 ∷ []) []
  pub both_read : EndsExactly wheels_tree silent (with_one 9 1 ∷ with_one 9 2 ∷ []) ((1 ∷ 1 ∷ []) ∷ [])
  pub stored : EndsExactly wheels_tree silent (with_one 9 1 ∷ with_one 9 2 ∷ bare 10 ∷ []) ((2 ∷ 2 ∷ []) ∷ [])

-- ---- an arrow that waits for the child of its state, one that leads back to that state, and one that waits where there is no child

-- state 0 holds a child of one step on 11; 12 waits for it
abbrev pub waiting : Drawing
waiting = record {
  nodes = states (plain ∷ final ∷ []) ∷ states (holding Unmarked 0 ∷ plain ∷ []) ∷ [];
  arrows = arrow 0 0 1 11 Absent ∷ waiting_arrow 1 0 1 12 ∷ [];
}

-- its tree; no type is named
abbrev pub waiting_tree : Tree
waiting_tree = tree_of (type_0_has []) waiting 1

-- 12 comes only after 11
pub record Waiting : Type 0 where
  pub too_early : EndsExactly waiting_tree silent (bare 12 ∷ []) []
  pub child_moved : EndsExactly waiting_tree silent (bare 11 ∷ []) ((0 ∷ 1 ∷ []) ∷ [])
  pub left : EndsExactly waiting_tree silent (bare 11 ∷ bare 12 ∷ []) ((1 ∷ 0 ∷ []) ∷ [])

-- the same with state 0 deep final, and an arrow on 13 that does not wait and leads back to it
abbrev pub coming_back : Drawing
coming_back = record {
  nodes = states (plain ∷ final ∷ []) ∷ states (holding Deep 0 ∷ plain ∷ []) ∷ [];
  arrows = arrow 0 0 1 11 Absent ∷ waiting_arrow 1 0 1 12 ∷ arrow 1 0 0 13 Absent ∷ [];
}

-- its tree; no type is named
abbrev pub coming_back_tree : Tree
coming_back_tree = tree_of (type_0_has []) coming_back 1

-- finished with the child; 13 begins it anew
pub record ComingBack : Type 0 where
  pub unfinished : finished coming_back_tree (0 ∷ 0 ∷ []) ≡ false
  pub done : finished coming_back_tree (0 ∷ 1 ∷ []) ≡ true
  pub anew : EndsExactly coming_back_tree silent (bare 11 ∷ bare 13 ∷ []) ((0 ∷ 0 ∷ []) ∷ [])

-- a waiting arrow out of a state without a child
abbrev pub waiting_alone : Drawing
waiting_alone = record { nodes = states (plain ∷ plain ∷ []) ∷ []; arrows = waiting_arrow 0 0 1 12 ∷ [] }

-- it does not wait
abbrev pub WaitingAlone : Type 0
WaitingAlone = EndsExactly (tree_of (type_0_has []) waiting_alone 0) silent (bare 12 ∷ []) ((1 ∷ []) ∷ [])

-- ---- a sequence that is started again and again: its first part alone does not finish it

-- one step on 6, then one on 7, under a closure
abbrev pub shift : Drawing
shift = record {
  nodes = states (plain ∷ final ∷ []) ∷ states (plain ∷ final ∷ []) ∷ Sequence 0 1 ∷ Closure 2 ∷ [];
  arrows = arrow 0 0 1 6 Absent ∷ arrow 1 0 1 7 Absent ∷ [];
}

-- its tree; no type is named
abbrev pub shift_tree : Tree
shift_tree = tree_of (type_0_has []) shift 3

-- after 6 alone it does not start again, after 6 and 7 it does
pub record Shift : Type 0 where
  pub first_part : EndsExactly shift_tree silent (bare 6 ∷ []) ((1 ∷ 0 ∷ 1 ∷ []) ∷ [])
  pub unfinished : finished shift_tree (1 ∷ 0 ∷ 1 ∷ []) ≡ false
  pub no_restart : EndsExactly shift_tree silent (bare 6 ∷ bare 6 ∷ []) []
  pub both_parts : EndsExactly shift_tree silent (bare 6 ∷ bare 7 ∷ []) ((1 ∷ 1 ∷ 1 ∷ []) ∷ [])
  pub restart : EndsExactly shift_tree silent (bare 6 ∷ bare 7 ∷ bare 6 ∷ []) ((1 ∷ 0 ∷ 1 ∷ []) ∷ [])

-- ---- two arrows to one state, and one event to two states

-- from state 1: twice to 0 on 5, to 2 and to 0 on 6
abbrev pub fork : Drawing
fork = record {
  nodes = starting_in 1 (plain ∷ plain ∷ plain ∷ []) ∷ [];
  arrows = arrow 0 1 0 5 Absent ∷ arrow 0 1 0 5 Absent ∷ arrow 0 1 2 6 Absent ∷ arrow 0 1 0 6 Absent ∷ [];
}

-- its tree; no type is named
abbrev pub fork_tree : Tree
fork_tree = tree_of (type_0_has []) fork 0

-- 5 gives one row, 6 gives two
pub record Fork : Type 0 where
  pub begins : EndsExactly fork_tree silent [] ((1 ∷ []) ∷ [])
  pub one : EndsExactly fork_tree silent (bare 5 ∷ []) ((0 ∷ []) ∷ [])
  pub two : EndsExactly fork_tree silent (bare 6 ∷ []) ((0 ∷ []) ∷ (2 ∷ []) ∷ [])

-- ---- two nested choices of a value: the outer one gives the outer variable, the inner one the inner

-- one arrow with both variables under two choices over type 0
abbrev pub nested : Drawing
nested = record {
  nodes = states (plain ∷ plain ∷ []) ∷ QuantifiedChoice 0 0 ∷ QuantifiedChoice 0 1 ∷ [];
  arrows = arrow_of_two 0 0 1 5 Outer Inner ∷ [];
}

-- its tree with the values 7, 9
abbrev pub nested_tree : Tree
nested_tree = tree_of (type_0_has (7 ∷ 9 ∷ [])) nested 2

-- the first argument is the outer choice's value, the second the inner one's; both are asked for
pub record Nested : Type 0 where
  pub begins : EndsExactly nested_tree silent [] ((0 ∷ 0 ∷ 0 ∷ []) ∷ [])
  pub chosen : EndsExactly nested_tree silent (with_two 5 9 7 ∷ []) ((2 ∷ 1 ∷ 1 ∷ []) ∷ [])
  pub twice : EndsExactly nested_tree silent (with_two 5 7 7 ∷ []) ((1 ∷ 1 ∷ 1 ∷ []) ∷ [])
  pub too_few : EndsExactly nested_tree silent (with_one 5 9 ∷ []) []

-- ---- guards that look at the variables: one on a node, one on an arrow

-- guard 0 holds for an outer value above 8, guard 1 for the inner value 7
abbrev pub limited : Meaning
limited w guard e v =
    limits_answer (Some (record { operand = o.Outer; comparison = Above; constant = 8 }) ∷ Some (record { operand = o.Inner; comparison = Equal; constant = 7 }) ∷ []) guard e v

-- guard 0 over the automaton, guard 1 on its arrow, under two choices over type 0
abbrev pub choosy : Drawing
choosy = record {
  nodes = states (plain ∷ plain ∷ []) ∷ Guard 0 0 ∷ QuantifiedChoice 0 1 ∷ QuantifiedChoice 0 2 ∷ [];
  arrows = record { node = 0; from = 0; to = 1; label = 5; waits = false; guard = Some 1; first = Outer; second = Inner } ∷ [];
}

-- its tree with the values 7, 9
abbrev pub choosy_tree : Tree
choosy_tree = tree_of (type_0_has (7 ∷ 9 ∷ [])) choosy 3

-- both guards have to hold
pub record Choosy : Type 0 where
  pub both_hold : EndsExactly choosy_tree limited (with_two 5 9 7 ∷ []) ((2 ∷ 1 ∷ 1 ∷ 1 ∷ []) ∷ [])
  pub outer_fails : EndsExactly choosy_tree limited (with_two 5 7 7 ∷ []) []
  pub inner_fails : EndsExactly choosy_tree limited (with_two 5 9 9 ∷ []) []

-- ---- all of them are sound, as what a procedure holds is. (A procedure's tables have places that are not in use; no tree looks at these.)

-- every drawing of a list is sound
abbrev pub all_sound : List Drawing → Bool
all_sound [] = true
all_sound (d ∷ ds) = sound d.nodes d.arrows && all_sound ds

-- the examples are
abbrev pub ExamplesAreSound : Type 0
ExamplesAreSound =
    all_sound (
    axle
    ∷ two_sides []
    ∷ two_sides (5 ∷ [])
    ∷ uneven_sides
    ∷ handing_over
    ∷ handing_on
    ∷ either_side
    ∷ deciding
    ∷ guarded_steps
    ∷ guarded_again
    ∷ guarded_way
    ∷ wheels
    ∷ waiting
    ∷ coming_back
    ∷ waiting_alone
    ∷ shift
    ∷ fork
    ∷ nested
    ∷ choosy ∷ []
    ) ≡ true
