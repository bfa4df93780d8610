-- How a file lays out a drawing: the records of its nodes and arrows, one after the other.
use Rattle.std.specs.Prelude.{◌≡◌, ℕ, ◌+◌, ◌-◌, ◌*◌, ◌≤◌, cond, List, [], ◌∷◌, ◌++◌, length, get_or, replicate, Some, None, Option}
use Rattle.notation.specs.Parts.{blank_state}
use Rattle.notation.specs.declared.node.Mark.{Mark}
use Rattle.notation.specs.declared.node.Mark.TheVariants.{Unmarked, Shallow, Deep}
use Rattle.notation.specs.declared.node.State.{State}
use Rattle.notation.specs.Tables.{Table}
use Rattle.notation.specs.declared.node.Node.TheVariants.{Closure, Automaton, Sequence, Guard, Choice, Synchronisation, QuantifiedChoice, QuantifiedSynchronisation}
use Rattle.notation.specs.declared.arrow.Argument.{Argument}
use Rattle.notation.specs.declared.arrow.Argument.TheVariants.{Absent, Constant, Outer, Inner}
use Rattle.record.specs.declared.entry.Entry.{Entry}
use Rattle.record.specs.declared.entry.Entry.TheVariants as e
use Rattle.procedure.specs.Drawings.{Drawing, nothing_drawn, grown}

-- the fields of a file, each of two bytes, the low one first; a lone last byte is in none
abbrev pub fields_in : List ℕ → List ℕ
fields_in [] = []
fields_in (low ∷ []) = []
fields_in (low ∷ high ∷ bytes) = (low + 256 * high) ∷ fields_in bytes

-- a mark by its number
abbrev pub mark_field : Mark → ℕ
mark_field Unmarked = 0
mark_field Shallow = 1
mark_field Deep = 2

-- a child or a guard, 65,535 for none
abbrev pub option_field : Option ℕ → ℕ
option_field None = 65535
option_field (Some k) = k

-- an argument is its kind and its value
abbrev pub argument_fields : Argument → List ℕ
argument_fields Absent = 0 ∷ 0 ∷ []
argument_fields (Constant value) = 1 ∷ value ∷ []
argument_fields Outer = 2 ∷ 0 ∷ []
argument_fields Inner = 3 ∷ 0 ∷ []

-- a state is its mark and its child
abbrev pub state_fields : List State → List ℕ
state_fields [] = []
state_fields (s ∷ ss) = mark_field s.mark ∷ option_field s.child ∷ state_fields ss

-- a set is its count and its labels
abbrev pub label_fields : Table ℕ → List ℕ
label_fields s = length s.items ∷ s.items

-- the kind of an entry and the fields of its body
abbrev pub fields_of : Entry → List ℕ
fields_of (e.Node (Automaton s)) = 1 ∷ length s.table.items ∷ s.start ∷ state_fields s.table.items
fields_of (e.Node (Sequence first second)) = 2 ∷ first ∷ second ∷ []
fields_of (e.Node (Closure body)) = 3 ∷ body ∷ []
fields_of (e.Node (Guard guard body)) = 4 ∷ guard ∷ body ∷ []
fields_of (e.Node (Choice left right)) = 5 ∷ left ∷ right ∷ []
fields_of (e.Node (Synchronisation left right labels)) = 6 ∷ left ∷ right ∷ label_fields labels
fields_of (e.Node (QuantifiedChoice over body)) = 7 ∷ over ∷ body ∷ []
fields_of (e.Node (QuantifiedSynchronisation over body labels)) = 8 ∷ over ∷ body ∷ label_fields labels
fields_of (e.Arrow a) =
    9 ∷ a.node ∷ a.from ∷ a.to ∷ a.label ∷ cond a.waits 1 0 ∷ option_field a.guard
    ∷ (argument_fields a.first ++ argument_fields a.second)

-- a record: the number of bytes after its length field, and the fields
abbrev pub record_of : Entry → List ℕ
record_of x = 2 * length (fields_of x) ∷ fields_of x

-- one record after the other
abbrev pub records_of : List Entry → List ℕ
records_of [] = []
records_of (x ∷ xs) = record_of x ++ records_of xs

-- a table of `size` places has no more than that in use, and the others are blank
pub record Neat {X : Type 0} (size : ℕ) (blank : X) (t : Table X) : Type 0 where
  pub fits : length t.items ≤ size
  pub past : t.spare ≡ replicate (size - length t.items) blank

-- 65,535 stands for none, so it is nobody's number
abbrev pub Written : Option ℕ → Type 0
Written None = Unit {0}
Written (Some k) = k ≡ 65535 → ⊥

-- an entry as a file can lay it out: blank where nothing is in use, and 65,535 nowhere as a number
abbrev pub NeatEntry : Entry → Type 0
NeatEntry (e.Node (Automaton s)) = Neat 32 blank_state s.table × ((k : ℕ) → Written (get_or s.table.items k blank_state).child)
NeatEntry (e.Node (Sequence first second)) = Unit {0}
NeatEntry (e.Node (Closure body)) = Unit {0}
NeatEntry (e.Node (Guard guard body)) = Unit {0}
NeatEntry (e.Node (Choice left right)) = Unit {0}
NeatEntry (e.Node (Synchronisation left right labels)) = Neat 16 0 labels
NeatEntry (e.Node (QuantifiedChoice over body)) = Unit {0}
NeatEntry (e.Node (QuantifiedSynchronisation over body labels)) = Neat 16 0 labels
NeatEntry (e.Arrow a) = Written a.guard

-- the same of each entry
abbrev pub NeatEntries : List Entry → Type 0
NeatEntries [] = Unit {0}
NeatEntries (x ∷ xs) = NeatEntry x × NeatEntries xs

-- what entries draw, in their order, after a drawing
abbrev pub drawn_after : Drawing → List Entry → Drawing
drawn_after d [] = d
drawn_after d (x ∷ xs) = drawn_after (grown d (Some x)) xs

-- the file is the records of entries, in order and with nothing left over, and these are the nodes and arrows of the drawing
pub record Lays (b : List ℕ) (d : Drawing) : Type 0 where
  pub entries : List Entry
  pub fields : fields_in b ≡ records_of entries
  pub bytes : length b ≡ 2 * length (records_of entries)
  pub neat : NeatEntries entries
  pub draws : drawn_after nothing_drawn entries ≡ d
