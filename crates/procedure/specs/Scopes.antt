-- Whose child a node is, and how many binders stand above it.
use Rattle.std.specs.Prelude.{ℕ, zero, suc, ◌+◌, Bool, true, false, cond, not, ◌&&◌, ◌||◌, List, [], ◌∷◌, ◌++◌, length, is_some, Some, None, Option, ◌==◌, nat_le, nat_lt, slice_index_or}
use Rattle.notation.specs.Parts.{children_of, binds, states_of, binders_for, blank_node}
use Rattle.notation.specs.declared.node.Node.{Node}
use Rattle.notation.specs.declared.arrow.Arrow.{Arrow}

-- k is one of the numbers (computed, so an own word)
abbrev pub among : ℕ → List ℕ → Bool
among k [] = false
among k (x ∷ xs) = x == k || among k xs

-- the last of the nodes ns, numbered from i, that has k as a child; the one found before, if none has
abbrev pub parent_from : ℕ → List Node → ℕ → Option ℕ → Option ℕ
parent_from i [] k found = found
parent_from i (n ∷ ns) k found = parent_from (suc i) ns k (cond (among k (children_of n)) (Some i) found)

-- the node of which k is a child: the last that names it, where several do
abbrev pub parent_of : List Node → ℕ → Option ℕ
parent_of ns k = parent_from 0 ns k None

-- 1 for a binder, 0 for any other node
abbrev pub binder_at : List Node → ℕ → ℕ
binder_at ns i = cond (binds (slice_index_or ns i blank_node)) 1 0

-- the binders from a parent on, if there is one, where `above` says how many are above each node
abbrev pub binders_from : (ℕ → ℕ) → List Node → Option ℕ → ℕ
binders_from above ns None = 0
binders_from above ns (Some i) = binder_at ns i + above i

-- the binders among the first `steps` nodes above k, on the way to the root
abbrev pub binders_within : ℕ → List Node → ℕ → ℕ
binders_within zero ns k = 0
binders_within (suc steps) ns k = binders_from (binders_within steps ns) ns (parent_of ns k)

-- the binders above k: no way to the root is longer than there are nodes
abbrev pub binders_above : List Node → ℕ → ℕ
binders_above ns k = binders_within (length ns) ns k

-- question 6: each child is below its node, which comes after the nodes ns; it is nobody's child yet, and was not named before it
abbrev pub children_free : List Node → List ℕ → List ℕ → Bool
children_free ns before [] = true
children_free ns before (k ∷ ks) = nat_lt k (length ns) && (not (is_some (parent_of ns k)) && (not (among k before) && children_free ns (before ++ k ∷ []) ks))

-- question 7: the arrow's node is an automaton among the nodes ns, and both its states are states of that
abbrev pub arrow_placed : List Node → Arrow → Bool
arrow_placed ns a = nat_lt a.from (states_of (slice_index_or ns a.node blank_node)) && nat_lt a.to (states_of (slice_index_or ns a.node blank_node))

-- question 8 at node k: it is the root, or a child
abbrev pub attached : List Node → ℕ → Bool
attached ns k = suc k == length ns || is_some (parent_of ns k)

-- question 9 at node k: a binder is under at most one other
abbrev pub binders_few : List Node → ℕ → Bool
binders_few ns k = not (binds (slice_index_or ns k blank_node)) || nat_le (binders_above ns k) 1

-- question 10 of an arrow: `outer` asks for one binder above its automaton, `inner` for two
abbrev pub in_scope : List Node → Arrow → Bool
in_scope ns a = nat_le (binders_for a.first) (binders_above ns a.node) && nat_le (binders_for a.second) (binders_above ns a.node)
