-- The ranges of question 5: the fields of the record that begins at `at`.
use Rattle.std.specs.Prelude.{ℕ, zero, suc, ◌+◌, ◌*◌, Bool, true, not, ◌&&◌, ◌||◌, List, ◌==◌, nat_le, nat_lt}
use Rattle.record.specs.Bytes.{field_at}
use Rattle.record.specs.declared.kind.Kind.{Kind}
use Rattle.record.specs.declared.kind.Kind.TheVariants.{Automaton, Sequence, Closure, Guard, Choice, Synchronisation, QuantifiedChoice, QuantifiedSynchronisation, Arrow}

-- a test holds of every number below n
abbrev pub all_below : ℕ → (ℕ → Bool) → Bool
all_below zero f = true
all_below (suc n) f = all_below n f && f n

-- a mark is 0 to 2, and 2 only with a child
abbrev pub mark_fits : ℕ → ℕ → Bool
mark_fits mark child = nat_le mark 1 || (mark == 2 && not (child == 65535))

-- the mark and the child of a state, a pair of fields
abbrev pub state_fits : List ℕ → ℕ → Bool
state_fits b at = mark_fits (field_at b at) (field_at b (at + 2))

-- 1 to 32 states, the start among them, and their marks
abbrev pub states_fit : List ℕ → ℕ → Bool
states_fit b at =
    nat_le 1 (field_at b (at + 4)) && (nat_le (field_at b (at + 4)) 32 && (nat_lt (field_at b (at + 6)) (field_at b (at + 4))
    && all_below (field_at b (at + 4)) (λ i. state_fits b (at + 8 + 4 * i))))

-- the label at place i of a set: at most 255, and above the one before it
abbrev pub label_fits : List ℕ → ℕ → ℕ → Bool
label_fits b at i = nat_le (field_at b (at + 10 + 2 * i)) 255 && (i == 0 || nat_lt (field_at b (at + 8 + 2 * i)) (field_at b (at + 10 + 2 * i)))

-- at most 16 labels, rising
abbrev pub labels_fit : List ℕ → ℕ → Bool
labels_fit b at = nat_le (field_at b (at + 8)) 16 && all_below (field_at b (at + 8)) (label_fits b at)

-- an argument kind is 0 to 3, and the value is 0 unless the kind is constant
abbrev pub argument_fits : ℕ → ℕ → Bool
argument_fits kind value = nat_le kind 3 && (kind == 1 || value == 0)

-- both arguments of an arrow; a second one needs a first
abbrev pub arguments_fit : List ℕ → ℕ → Bool
arguments_fit b at =
    argument_fits (field_at b at) (field_at b (at + 2)) && (argument_fits (field_at b (at + 4)) (field_at b (at + 6))
    && (field_at b (at + 4) == 0 || not (field_at b at == 0)))

-- an arrow's guard is 0 to 31, or 65,535 for none
abbrev pub guard_fits : ℕ → Bool
guard_fits guard = nat_le guard 31 || guard == 65535

-- label, wait, guard and both arguments
abbrev pub arrow_fits : List ℕ → ℕ → Bool
arrow_fits b at =
    nat_le (field_at b (at + 10)) 255 && (nat_le (field_at b (at + 12)) 1 && (guard_fits (field_at b (at + 14)) && arguments_fit b (at + 16)))

-- every field of a record of this kind is in range; children, and an arrow's node and states, have questions of their own
abbrev pub fields_fit : Kind → List ℕ → ℕ → Bool
fields_fit Automaton b at = states_fit b at
fields_fit Sequence b at = true
fields_fit Closure b at = true
fields_fit Guard b at = nat_le (field_at b (at + 4)) 31
fields_fit Choice b at = true
fields_fit Synchronisation b at = labels_fit b at
fields_fit QuantifiedChoice b at = nat_le (field_at b (at + 4)) 7
fields_fit QuantifiedSynchronisation b at = nat_le (field_at b (at + 4)) 7 && labels_fit b at
fields_fit Arrow b at = arrow_fits b at
