-- The tree that a node of a procedure stands for.
use Rattle.std.specs.Prelude.{ℕ, zero, suc, cond, List, [], ◌∷◌, length, Option, Some, None, ◌==◌, slice_index_or}
use Rattle.std.specs.List.{slice_get}
use Rattle.notation.specs.Parts.{blank_state}
use Rattle.notation.specs.declared.node.State.{State}
use Rattle.notation.specs.declared.node.States.{States}
use Rattle.notation.specs.Tables.{Table}
use Rattle.notation.specs.declared.node.Node.{Node}
use Rattle.notation.specs.declared.node.Node.TheVariants.{Closure, Automaton, Sequence, Guard, Choice, Synchronisation, QuantifiedChoice, QuantifiedSynchronisation}
use Rattle.notation.specs.declared.arrow.Arrow.{Arrow}
use Rattle.procedure.specs.Drawings.{Drawing}
use Rattle.rules.specs.Trees.{NumberedArrow, Tree, elementary, automaton, sequence, closure, guarded, choice, synchronisation, quantified_choice, quantified_synchronisation}

-- the values of each type, in roster order
abbrev pub Values : Type 0
Values = ℕ → List ℕ

-- the state of a number; a number that is no state's has no mark and no child
abbrev pub state_of : States → ℕ → State
state_of s q = slice_index_or s.table.items q blank_state

-- the labels of a set
abbrev pub labels_of : Table ℕ → List ℕ
labels_of s = s.items

-- the arrows of node i, each with its number; the first of the list has the number k
abbrev pub arrows_of : ℕ → ℕ → List Arrow → List NumberedArrow
arrows_of i k [] = []
arrows_of i k (a ∷ as') = cond (a.node == i) (record { number = k; arrow = a } ∷ arrows_of i (suc k) as') (arrows_of i (suc k) as')

-- the tree of a state's child; a state without one is elementary
abbrev pub child_tree : (ℕ → Tree) → Option ℕ → Tree
child_tree t None = elementary
child_tree t (Some k) = t k

-- the tree of a node, by the trees t of other nodes and by its arrows
abbrev pub node_tree : Values → List NumberedArrow → (ℕ → Tree) → Node → Tree
node_tree values arrows t (Closure body) = closure (t body)
node_tree values arrows t (Automaton s) = automaton (length s.table.items) s.start (λ q. (state_of s q).mark) (λ q. child_tree t (state_of s q).child) arrows
node_tree values arrows t (Sequence first second) = sequence (t first) (t second)
node_tree values arrows t (Guard guard body) = guarded guard (t body)
node_tree values arrows t (Choice left right) = choice (t left) (t right)
node_tree values arrows t (Synchronisation left right labels) = synchronisation (labels_of labels) (t left) (t right)
node_tree values arrows t (QuantifiedChoice over body) = quantified_choice (values over) (t body)
node_tree values arrows t (QuantifiedSynchronisation over body labels) = quantified_synchronisation (values over) (labels_of labels) (t body)

-- the same if there is a node
abbrev pub node_tree_if : Values → List NumberedArrow → (ℕ → Tree) → Option Node → Tree
node_tree_if values arrows t None = elementary
node_tree_if values arrows t (Some n) = node_tree values arrows t n

-- the tree of node i, at most `depth` nodes deep
abbrev pub tree_within : ℕ → Values → Drawing → ℕ → Tree
tree_within zero values d i = elementary
tree_within (suc depth) values d i = node_tree_if values (arrows_of i 0 d.arrows) (tree_within depth values d) (slice_get d.nodes i)

-- The tree of node i. Children are below their node, so it is at most i + 1 nodes deep.
unfoldable pub tree_of : Values → Drawing → ℕ → Tree
tree_of values d i = tree_within (suc i) values d i
