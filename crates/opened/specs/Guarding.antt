-- Where guards stand.
use Rattle.std.specs.Prelude.{ℕ, Bool, true, false, ◌&&◌, ◌==◌}
use Rattle.std.specs.Option.{is_some}
use Rattle.notation.specs.declared.arrow.Arrow.{Arrow}
use Rattle.notation.specs.declared.node.Node.{Node}
use Rattle.notation.specs.declared.node.Node.TheVariants.{Closure, Automaton, Sequence, Guard, Choice, Synchronisation, QuantifiedChoice, QuantifiedSynchronisation}

-- whether a node is a guard
abbrev pub is_guard : Node → Bool
is_guard (Closure body) = false
is_guard (Automaton states) = false
is_guard (Sequence first second) = false
is_guard (Guard guard body) = true
is_guard (Choice left right) = false
is_guard (Synchronisation left right labels) = false
is_guard (QuantifiedChoice over body) = false
is_guard (QuantifiedSynchronisation over body labels) = false

-- whether an arrow has this label and a guard
abbrev pub is_guarded : ℕ → Arrow → Bool
is_guarded label w = w.label == label && is_some w.guard
