-- What the fields of the record that begins at `at` tell: a node or an arrow.
use Rattle.std.specs.Prelude.{ℕ, ◌+◌, ◌-◌, ◌*◌, cond, List, map, replicate, Some, None, Option, ◌==◌}
use Rattle.std.specs.List.{range_with_len}
use Rattle.notation.specs.Tables.{Table}
use Rattle.notation.specs.Parts.{blank_state}
use Rattle.notation.specs.declared.node.Mark.{Mark}
use Rattle.notation.specs.declared.node.Mark.TheVariants.{Unmarked, Shallow, Deep}
use Rattle.notation.specs.declared.node.State.{State}
use Rattle.notation.specs.declared.node.States.{States}
use Rattle.notation.specs.declared.node.Node.TheVariants as n
use Rattle.notation.specs.declared.arrow.Arrow.{Arrow}
use Rattle.notation.specs.declared.arrow.Argument.{Argument}
use Rattle.notation.specs.declared.arrow.Argument.TheVariants.{Absent, Constant, Outer, Inner}
use Rattle.record.specs.Bytes.{field_at}
use Rattle.record.specs.declared.kind.Kind.{Kind}
use Rattle.record.specs.declared.kind.Kind.TheVariants as k
use Rattle.record.specs.declared.entry.Entry.{Entry}
use Rattle.record.specs.declared.entry.Entry.TheVariants as e

-- a mark: 0 none, 1 shallow final, 2 deep final (other numbers are out of range, whatever stands for them here)
abbrev pub mark_of : ℕ → Mark
mark_of c = cond (c == 0) Unmarked (cond (c == 1) Shallow Deep)

-- a child or a guard, none where the field is 65,535
abbrev pub unless_none : ℕ → Option ℕ
unless_none c = cond (c == 65535) None (Some c)

-- an argument by its kind and value: 0 absent, 1 constant, 2 outer, 3 inner (other kinds are out of range, whatever stands for them here)
abbrev pub argument_of : ℕ → ℕ → Argument
argument_of c v = cond (c == 0) Absent (cond (c == 1) (Constant v) (cond (c == 2) Outer Inner))

-- a table of `size` places that holds the n elements that f gives; the other places are blank
abbrev pub tabled : {X : Type 0} → ℕ → X → ℕ → (ℕ → X) → Table X
tabled size blank n f = record { items = map f (range_with_len 0 n); spare = replicate (size - n) blank }

-- a state is a pair of fields, mark and child
abbrev pub state_at : List ℕ → ℕ → State
state_at b at = record { mark = mark_of (field_at b at); child = unless_none (field_at b (at + 2)) }

-- count, start, and a pair of fields for each state
abbrev pub states_at : List ℕ → ℕ → States
states_at b at = record {
  start = field_at b (at + 6);
  table = tabled 32 blank_state (field_at b (at + 4)) (λ i. state_at b (at + 8 + 4 * i));
}

-- a set of labels: its count, and a field for each
abbrev pub labels_at : List ℕ → ℕ → Table ℕ
labels_at b at = tabled 16 0 (field_at b (at + 8)) (λ i. field_at b (at + 10 + 2 * i))

-- two arguments, each a pair of fields, kind and value
abbrev pub arguments_at : List ℕ → ℕ → Argument × Argument
arguments_at b at = (argument_of (field_at b at) (field_at b (at + 2)), argument_of (field_at b (at + 4)) (field_at b (at + 6)))

-- the ten fields of an arrow
abbrev pub arrow_at : List ℕ → ℕ → Arrow
arrow_at b at = record {
  node = field_at b (at + 4);
  from = field_at b (at + 6);
  to = field_at b (at + 8);
  label = field_at b (at + 10);
  waits = (field_at b (at + 12) == 1);
  guard = unless_none (field_at b (at + 14));
  first = (arguments_at b (at + 16)).0;
  second = (arguments_at b (at + 16)).1;
}

-- the fields stand behind the length, at `at`, and the kind, at `at + 2`
abbrev pub entry_at : Kind → List ℕ → ℕ → Entry
entry_at k.Automaton b at = e.Node (n.Automaton (states_at b at))
entry_at k.Sequence b at = e.Node (n.Sequence (field_at b (at + 4)) (field_at b (at + 6)))
entry_at k.Closure b at = e.Node (n.Closure (field_at b (at + 4)))
entry_at k.Guard b at = e.Node (n.Guard (field_at b (at + 4)) (field_at b (at + 6)))
entry_at k.Choice b at = e.Node (n.Choice (field_at b (at + 4)) (field_at b (at + 6)))
entry_at k.Synchronisation b at = e.Node (n.Synchronisation (field_at b (at + 4)) (field_at b (at + 6)) (labels_at b at))
entry_at k.QuantifiedChoice b at = e.Node (n.QuantifiedChoice (field_at b (at + 4)) (field_at b (at + 6)))
entry_at k.QuantifiedSynchronisation b at = e.Node (n.QuantifiedSynchronisation (field_at b (at + 4)) (field_at b (at + 6)) (labels_at b at))
entry_at k.Arrow b at = e.Arrow (arrow_at b at)
