-- What a node tells of its children: they are below it, its tree is made of theirs, and what is above them follows from what is above it.
use Rattle.std.specs.Prelude.{◌≡◌, ℕ, ◌<◌, List, length, Some}
use Rattle.notation.specs.declared.node.States.{States}
use Rattle.notation.specs.declared.node.Node.{Node}
use Rattle.notation.specs.declared.node.Node.TheVariants.{Closure, Automaton, Sequence, Guard, Choice, Synchronisation, QuantifiedChoice, QuantifiedSynchronisation}
use Rattle.procedure.specs.Procedures.{drawing}
use Rattle.rules.specs.Trees.{Tree, automaton, sequence, closure, guarded, choice, synchronisation, quantified_choice, quantified_synchronisation}
use Rattle.rules.specs.Growing.{state_of, labels_of, child_tree, arrows_of}
use Rattle.diagram.specs.Valued.{values_of}
use Rattle.diagram.specs.Plans.{tree_at}
use Rattle.diagram.specs.Scopes.{binders_at, typed_under}
use Rattle.diagram.specs.declared.binders.Binders.{Binders}
use Rattle.diagram.specs.declared.plan.Plan.{Plan}

-- a node with one child
pub record OneChild (p : Plan) (i body : ℕ) (tree : Tree → Tree) : Type 0 where
  pub below : body < i
  pub is : tree_at p i ≡ tree (tree_at p body)

-- a node with two
pub record TwoChildren (p : Plan) (i left right : ℕ) (tree : Tree → Tree → Tree) : Type 0 where
  pub left_below : left < i
  pub right_below : right < i
  pub is : tree_at p i ≡ tree (tree_at p left) (tree_at p right)

-- an automaton, whose states may have a child each
pub record StateChildren (p : Plan) (i : ℕ) (s : States) : Type 0 where
  pub below : (q k : ℕ) → (state_of s q).child ≡ Some k → k < i
  pub is : tree_at p i ≡ automaton (length s.table.items) s.start (λ q. (state_of s q).mark) (λ q. child_tree (tree_at p) (state_of s q).child) (arrows_of i 0 (drawing p.procedure).arrows)

-- each kind of node
abbrev pub Opens : Plan → ℕ → Node → Type 0
Opens p i (Closure body) = OneChild p i body closure
Opens p i (Automaton states) = StateChildren p i states
Opens p i (Sequence first second) = TwoChildren p i first second sequence
Opens p i (Guard guard body) = OneChild p i body (guarded guard)
Opens p i (Choice left right) = TwoChildren p i left right choice
Opens p i (Synchronisation left right labels) = TwoChildren p i left right (synchronisation (labels_of labels))
Opens p i (QuantifiedChoice over body) = OneChild p i body (quantified_choice (values_of p.values over))
Opens p i (QuantifiedSynchronisation over body labels) = OneChild p i body (quantified_synchronisation (values_of p.values over) (labels_of labels))

-- what is above the children of each kind of node, of which `b` tells what is above it
abbrev pub Above : List Binders → Binders → Node → Type 0
Above bs b (Closure body) = binders_at bs body ≡ b
Above bs b (Automaton states) = (q k : ℕ) → (state_of states q).child ≡ Some k → binders_at bs k ≡ b
Above bs b (Sequence first second) = (binders_at bs first ≡ b) × (binders_at bs second ≡ b)
Above bs b (Guard guard body) = binders_at bs body ≡ b
Above bs b (Choice left right) = (binders_at bs left ≡ b) × (binders_at bs right ≡ b)
Above bs b (Synchronisation left right labels) = (binders_at bs left ≡ b) × (binders_at bs right ≡ b)
Above bs b (QuantifiedChoice over body) = binders_at bs body ≡ typed_under b.outer over
Above bs b (QuantifiedSynchronisation over body labels) = binders_at bs body ≡ typed_under b.outer over
