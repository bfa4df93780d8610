-- A tree has only the values of the types that the nodes name.
use Rattle.std.proofs.Common.{◌≡◌, refl, ◌∙◌, ap, ℕ, zero, suc, List, Option, Some, None}
use Rattle.std.specs.List.{slice_get}
use mathlib.Core.Path.{fun_ext}
use Rattle.notation.specs.Parts.{over_of}
use Rattle.notation.specs.declared.node.Node.{Node}
use Rattle.notation.specs.declared.node.Node.TheVariants.{Closure, Automaton, Sequence, Guard, Choice, Synchronisation, QuantifiedChoice, QuantifiedSynchronisation}
use Rattle.procedure.specs.Drawings.{Drawing}
use Rattle.rules.specs.Trees.{NumberedArrow, Tree, quantified_choice, quantified_synchronisation}
use Rattle.rules.specs.Growing.{Values, labels_of, arrows_of, node_tree, node_tree_if, tree_within, tree_of}

-- the same values of the type that a node binds a variable over
abbrev pub AlikeAt : Values → Values → Node → Type 0
AlikeAt v v' n = (ty : ℕ) → over_of n ≡ Some ty → v ty ≡ v' ty

-- and of every type that a node of a drawing names
abbrev pub Alike : Values → Values → Drawing → Type 0
Alike v v' d = (i : ℕ) (n : Node) → slice_get d.nodes i ≡ Some n → AlikeAt v v' n

node-alike : (v v' : Values) (ws : List NumberedArrow) (t : ℕ → Tree) (n : Node) → AlikeAt v v' n → node_tree v ws t n ≡ node_tree v' ws t n
node-alike v v' ws t (Closure body) a = refl
node-alike v v' ws t (Automaton states) a = refl
node-alike v v' ws t (Sequence first second) a = refl
node-alike v v' ws t (Guard guard body) a = refl
node-alike v v' ws t (Choice left right) a = refl
node-alike v v' ws t (Synchronisation left right labels) a = refl
node-alike v v' ws t (QuantifiedChoice over body) a = ap (λ xs. quantified_choice xs (t body)) (a over refl)
node-alike v v' ws t (QuantifiedSynchronisation over body labels) a = ap (λ xs. quantified_synchronisation xs (labels_of labels) (t body)) (a over refl)

if-alike : (v v' : Values) (ws : List NumberedArrow) (t : ℕ → Tree) (o : Option Node) → ((n : Node) → o ≡ Some n → AlikeAt v v' n) → node_tree_if v ws t o ≡ node_tree_if v' ws t o
if-alike v v' ws t None a = refl
if-alike v v' ws t (Some n) a = node-alike v v' ws t n (a n refl)

module _ (v v' : Values) (d : Drawing) (a : Alike v v' d) where
  within-alike : (depth i : ℕ) → tree_within depth v d i ≡ tree_within depth v' d i
  within-alike zero i = refl
  within-alike (suc depth) i =
      ap (λ t. node_tree_if v (arrows_of i 0 d.arrows) t (slice_get d.nodes i)) (fun_ext (within-alike depth))
      ∙ if-alike v v' (arrows_of i 0 d.arrows) (tree_within depth v' d) (slice_get d.nodes i) (a i)

  -- the trees under both are the same
  pub trees-alike : (i : ℕ) → tree_of v d i ≡ tree_of v' d i
  unfolding tree_of
  trees-alike i = within-alike (suc i) i
