-- A node opens its tree, and tells what is above its children.
use Rattle.std.proofs.Common.{◌≡◌, refl, ℕ, ◌<◌, List, Some}
use Rattle.std.specs.List.{slice_get}
use mathlib.Core.List.{Memᴰ}
use Rattle.notation.specs.Parts.{children_of}
use Rattle.notation.specs.declared.node.Node.{Node}
use Rattle.notation.specs.declared.node.Node.TheVariants.{Closure, Automaton, Sequence, Guard, Choice, Synchronisation, QuantifiedChoice, QuantifiedSynchronisation}
use Rattle.procedure.specs.Procedures.{drawing}
use Rattle.rules.specs.Growing.{arrows_of, node_tree}
use Rattle.rules.proofs.Growing.{children-below, state-child, tree-unfolds}
use Rattle.diagram.specs.Valued.{values_of}
use Rattle.diagram.specs.Plans.{nodes_of, tree_at}
use Rattle.diagram.specs.Scopes.{binders_at, Placed}
use Rattle.diagram.specs.Opening.{Opens, Above}
use Rattle.diagram.specs.declared.binders.Binders.{Binders}
use Rattle.diagram.specs.declared.plan.Plan.{Plan}

module _ (p : Plan) (i : ℕ) where
  below : (n : Node) → slice_get (nodes_of p) i ≡ Some n → (k : ℕ) → Memᴰ k (children_of n) → k < i
  below n e = children-below (drawing p.procedure) p.procedure.drawn i n e

  pub opens : (n : Node) → slice_get (nodes_of p) i ≡ Some n → Opens p i n
  opens n e = at n e (tree-unfolds (values_of p.values) (drawing p.procedure) (children-below (drawing p.procedure) p.procedure.drawn) i n e)
    where
      at : (n : Node) → slice_get (nodes_of p) i ≡ Some n → tree_at p i ≡ node_tree (values_of p.values) (arrows_of i 0 (drawing p.procedure).arrows) (tree_at p) n → Opens p i n
      at (Closure body) e is = record { below = below (Closure body) e body (Memᴰ.head refl); is = is }
      at (Automaton states) e is = record { below = λ q k c. below (Automaton states) e k (state-child states q k c); is = is }
      at (Sequence first second) e is = record { left_below = below (Sequence first second) e first (Memᴰ.head refl); right_below = below (Sequence first second) e second (Memᴰ.tail (Memᴰ.head refl)); is = is }
      at (Guard guard body) e is = record { below = below (Guard guard body) e body (Memᴰ.head refl); is = is }
      at (Choice left right) e is = record { left_below = below (Choice left right) e left (Memᴰ.head refl); right_below = below (Choice left right) e right (Memᴰ.tail (Memᴰ.head refl)); is = is }
      at (Synchronisation left right labels) e is = record { left_below = below (Synchronisation left right labels) e left (Memᴰ.head refl); right_below = below (Synchronisation left right labels) e right (Memᴰ.tail (Memᴰ.head refl)); is = is }
      at (QuantifiedChoice over body) e is = record { below = below (QuantifiedChoice over body) e body (Memᴰ.head refl); is = is }
      at (QuantifiedSynchronisation over body labels) e is = record { below = below (QuantifiedSynchronisation over body labels) e body (Memᴰ.head refl); is = is }

  pub above : (bs : List Binders) → Placed p bs → (n : Node) → slice_get (nodes_of p) i ≡ Some n → Above bs (binders_at bs i) n
  above bs h (Closure body) e = h i body (Closure body) e (Memᴰ.head refl)
  above bs h (Automaton states) e = λ q k c. h i k (Automaton states) e (state-child states q k c)
  above bs h (Sequence first second) e = (h i first (Sequence first second) e (Memᴰ.head refl), h i second (Sequence first second) e (Memᴰ.tail (Memᴰ.head refl)))
  above bs h (Guard guard body) e = h i body (Guard guard body) e (Memᴰ.head refl)
  above bs h (Choice left right) e = (h i left (Choice left right) e (Memᴰ.head refl), h i right (Choice left right) e (Memᴰ.tail (Memᴰ.head refl)))
  above bs h (Synchronisation left right labels) e = (h i left (Synchronisation left right labels) e (Memᴰ.head refl), h i right (Synchronisation left right labels) e (Memᴰ.tail (Memᴰ.head refl)))
  above bs h (QuantifiedChoice over body) e = h i body (QuantifiedChoice over body) e (Memᴰ.head refl)
  above bs h (QuantifiedSynchronisation over body labels) e = h i body (QuantifiedSynchronisation over body labels) e (Memᴰ.head refl)
