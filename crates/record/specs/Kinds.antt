-- The kinds of record: their numbers, their exact lengths, and where each has its count.
use Rattle.std.specs.Prelude.{ℕ, ◌+◌, ◌*◌, cond, List, Some, None, Option, ◌==◌}
use Rattle.record.specs.Bytes.{field_at}
use Rattle.record.specs.declared.kind.Kind.{Kind}
use Rattle.record.specs.declared.kind.Kind.TheVariants.{Automaton, Sequence, Closure, Guard, Choice, Synchronisation, QuantifiedChoice, QuantifiedSynchronisation, Arrow}

-- the kind that a number stands for
abbrev pub kind_of : ℕ → Option Kind
kind_of c =
    cond (c == 1) (Some Automaton) (cond (c == 2) (Some Sequence) (cond (c == 3) (Some Closure) (cond (c == 4) (Some Guard)
    (cond (c == 5) (Some Choice) (cond (c == 6) (Some Synchronisation) (cond (c == 7) (Some QuantifiedChoice)
    (cond (c == 8) (Some QuantifiedSynchronisation) (cond (c == 9) (Some Arrow) None))))))))

-- the bytes after the length field of a record whose count is n
abbrev pub length_of : Kind → ℕ → ℕ
length_of Automaton n = 6 + 4 * n
length_of Sequence n = 6
length_of Closure n = 4
length_of Guard n = 6
length_of Choice n = 6
length_of Synchronisation n = 8 + 2 * n
length_of QuantifiedChoice n = 6
length_of QuantifiedSynchronisation n = 8 + 2 * n
length_of Arrow n = 22

-- the least length of a record of a kind
abbrev pub shortest_of : Kind → ℕ
shortest_of k = length_of k 0

-- the count field of the record at `at`, 0 for a kind without one
abbrev pub count_at : Kind → List ℕ → ℕ → ℕ
count_at Automaton b at = field_at b (at + 4)
count_at Sequence b at = 0
count_at Closure b at = 0
count_at Guard b at = 0
count_at Choice b at = 0
count_at Synchronisation b at = field_at b (at + 8)
count_at QuantifiedChoice b at = 0
count_at QuantifiedSynchronisation b at = field_at b (at + 8)
count_at Arrow b at = 0
