-- What holds of every procedure that was read, whatever file it came from.
use Rattle.std.specs.Prelude.{ℕ, ◌-◌, Bool, true, not, ◌&&◌, ◌||◌, List, [], length, get_or, take, is_some, Some, None, Option, ◌==◌, nat_le, nat_lt, slice_index, slice_index_or}
use Rattle.notation.specs.Parts.{children_of, is_absent, blank_state, blank_node, blank_arrow}
use Rattle.notation.specs.declared.node.Mark.{Mark}
use Rattle.notation.specs.declared.node.Mark.TheVariants.{Unmarked, Shallow, Deep}
use Rattle.notation.specs.declared.node.States.{States}
use Rattle.notation.specs.Tables.{Table}
use Rattle.notation.specs.declared.node.Node.{Node}
use Rattle.notation.specs.declared.node.Node.TheVariants.{Closure, Automaton, Sequence, Guard, Choice, Synchronisation, QuantifiedChoice, QuantifiedSynchronisation}
use Rattle.notation.specs.declared.arrow.Arrow.{Arrow}
use Rattle.record.specs.Ranges.{all_below}
use Rattle.record.specs.declared.entry.Entry.{Entry}
use Rattle.record.specs.declared.entry.Entry.TheVariants as e
use Rattle.procedure.specs.Scopes.{children_free, arrow_placed, attached, binders_few, in_scope}

-- only a state with a child is marked deep
abbrev pub mark_sound : Mark → Option ℕ → Bool
mark_sound Unmarked child = true
mark_sound Shallow child = true
mark_sound Deep child = is_some child

-- 1 to 32 states, the start among them
abbrev pub states_sound : States → Bool
states_sound s =
    nat_le 1 (length s.table.items) && (nat_le (length s.table.items) 32 && (nat_lt s.start (length s.table.items)
    && all_below (length s.table.items) (λ i. mark_sound (get_or s.table.items i blank_state).mark (get_or s.table.items i blank_state).child)))

-- at most 16 labels, each at most 255, rising
abbrev pub labels_sound : Table ℕ → Bool
labels_sound s =
    nat_le (length s.items) 16
    && all_below (length s.items) (λ i. nat_le (slice_index s.items i) 255 && (i == 0 || nat_lt (slice_index s.items (i - 1)) (slice_index s.items i)))

-- the parts of a node are in range
abbrev pub node_sound : Node → Bool
node_sound (Closure body) = true
node_sound (Automaton states) = states_sound states
node_sound (Sequence first second) = true
node_sound (Guard guard body) = nat_le guard 31
node_sound (Choice left right) = true
node_sound (Synchronisation left right labels) = labels_sound labels
node_sound (QuantifiedChoice over body) = nat_le over 7
node_sound (QuantifiedSynchronisation over body labels) = nat_le over 7 && labels_sound labels

-- a guard is at most 31
abbrev pub guard_sound : Option ℕ → Bool
guard_sound None = true
guard_sound (Some guard) = nat_le guard 31

-- the parts of an arrow are in range; a second argument needs a first
abbrev pub arrow_sound : Arrow → Bool
arrow_sound a = nat_le a.label 255 && (guard_sound a.guard && (is_absent a.second || not (is_absent a.first)))

-- the parts of an entry are in range
abbrev pub entry_sound : Entry → Bool
entry_sound (e.Node n) = node_sound n
entry_sound (e.Arrow a) = arrow_sound a

-- each node's parts are in range, and its children are below it, nobody else's and different
abbrev pub nodes_sound : List Node → Bool
nodes_sound ns = all_below (length ns) (λ i. node_sound (slice_index_or ns i blank_node) && children_free (take i ns) [] (children_of (slice_index_or ns i blank_node)))

-- each arrow's parts are in range, and it names an automaton and two states of it
abbrev pub arrows_sound : List Node → List Arrow → Bool
arrows_sound ns as' = all_below (length as') (λ j. arrow_sound (slice_index_or as' j blank_arrow) && arrow_placed ns (slice_index_or as' j blank_arrow))

-- every node but the last is a child, no binder is under two others, and every arrow's variables are in scope
abbrev pub whole_sound : List Node → List Arrow → Bool
whole_sound ns as' =
    all_below (length ns) (attached ns) && (all_below (length ns) (binders_few ns) && all_below (length as') (λ j. in_scope ns (slice_index_or as' j blank_arrow)))

-- a procedure that was read; one that holds nothing is sound too
unfoldable pub sound : List Node → List Arrow → Bool
sound ns as' = nodes_sound ns && (arrows_sound ns as' && whole_sound ns as')
