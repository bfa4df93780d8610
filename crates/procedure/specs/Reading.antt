-- Reading a file: the questions in the order in which they are asked, and what a file gives that answers yes to all.
use Rattle.std.specs.Prelude.{◌≡◌, ℕ, zero, suc, ◌+◌, Bool, true, false, cond, ◌&&◌, List, [], ◌∷◌, ◌++◌, length, Some, None, Ok, Err, Option, Result, MatchResult, nat_le, nat_lt, slice_index_or}
use Rattle.fault.specs.Asking.{Asked, refusal, asked_up_to, AllYes, FirstNo, answer_or}
use Rattle.fault.specs.declared.fault.Fault.{Fault}
use Rattle.fault.specs.declared.fault.Question.TheVariants.{FileWithinLimit, FieldsInRange, ChildrenFree, ArrowPlaced, OneRoot, BindersFew, VariablesInScope}
use Rattle.notation.specs.Parts.{children_of, blank_arrow}
use Rattle.notation.specs.declared.node.Node.{Node}
use Rattle.record.specs.Bytes.{field_at}
use Rattle.record.specs.Kinds.{kind_of}
use Rattle.record.specs.Frames.{frame_asks}
use Rattle.record.specs.Ranges.{fields_fit}
use Rattle.record.specs.Decoding.{entry_at}
use Rattle.record.specs.declared.kind.Kind.{Kind}
use Rattle.record.specs.declared.entry.Entry.{Entry}
use Rattle.record.specs.declared.entry.Entry.TheVariants as e
use Rattle.procedure.specs.Drawings.{Drawing, nothing_drawn, grown}
use Rattle.procedure.specs.Scopes.{children_free, arrow_placed, attached, binders_few, in_scope}

-- where record i begins: a record takes its length field and the bytes that this counts
abbrev pub start_of : List ℕ → ℕ → ℕ
start_of b zero = 0
start_of b (suc i) = start_of b i + 2 + field_at b (start_of b i)

-- the first record from i on, among as many as there are steps, that would begin at the file's end or behind it
abbrev pub records_from : ℕ → List ℕ → ℕ → ℕ
records_from zero b i = i
records_from (suc steps) b i = cond (nat_lt (start_of b i) (length b)) (records_from steps b (suc i)) i

-- how many records the file has: the first number whose record would begin at the file's end or behind it
abbrev pub records : List ℕ → ℕ
records b = records_from (length b) b 0

-- what a record of a kind tells
abbrev pub entry_as : Option Kind → List ℕ → ℕ → Option Entry
entry_as None b at = None
entry_as (Some k) b at = Some (entry_at k b at)

-- what the record at `at` tells, if its kind is known
unfoldable pub entry_here : List ℕ → ℕ → Option Entry
entry_here b at = entry_as (kind_of (field_at b (at + 2))) b at

-- what the first i records draw
abbrev pub drawn_by : List ℕ → ℕ → Drawing
drawn_by b zero = nothing_drawn
drawn_by b (suc i) = grown (drawn_by b i) (entry_here b (start_of b i))

-- whether the fields of a record of a kind are in range
abbrev pub ranged_as : Option Kind → List ℕ → ℕ → Bool
ranged_as None b at = false
ranged_as (Some k) b at = fields_fit k b at

-- the record's fields are in range
unfoldable pub ranged : List ℕ → ℕ → Bool
ranged b at = ranged_as (kind_of (field_at b (at + 2))) b at

-- at most 64 nodes and 256 arrows
abbrev pub few : Drawing → Bool
few d = nat_le (length d.nodes) 64 && nat_le (length d.arrows) 256

-- question 6 of an entry after the nodes ns; an arrow passes
abbrev pub entry_free : List Node → Option Entry → Bool
entry_free ns None = true
entry_free ns (Some (e.Node n)) = children_free ns [] (children_of n)
entry_free ns (Some (e.Arrow a)) = true

-- question 7 of an entry after the nodes ns; a node passes
abbrev pub entry_placed : List Node → Option Entry → Bool
entry_placed ns None = true
entry_placed ns (Some (e.Node n)) = true
entry_placed ns (Some (e.Arrow a)) = arrow_placed ns a

-- questions 5 to 7 of an entry that comes after a drawing; `fits` says whether its fields are in range
abbrev pub entry_asks : Drawing → ℕ → Bool → Option Entry → List Asked
entry_asks d place fits x =
    record { question = FieldsInRange; place = place; yes = fits && few (grown d x) }
    ∷ record { question = ChildrenFree; place = place; yes = entry_free d.nodes x }
    ∷ record { question = ArrowPlaced; place = place; yes = entry_placed d.nodes x } ∷ []

-- an entry joined a drawing, all questions of it answered yes; or one was answered no, and that was the refusal
abbrev pub Admitted : Drawing → ℕ → Entry → Result (Unit {0}) Fault → Drawing → Type 0
Admitted before place x r after =
    MatchResult r (λ _. (after ≡ grown before (Some x)) × (refusal (entry_asks before place true (Some x)) ≡ None))
    (λ f. refusal (entry_asks before place true (Some x)) ≡ Some f)

-- questions 2 to 7 of the record at `at`, whose number is the place, and which comes after a drawing
abbrev pub record_asks : List ℕ → ℕ → ℕ → Drawing → List Asked
record_asks b at place d = frame_asks b at place ++ entry_asks d place (ranged b at) (entry_here b at)

-- question 8: at 65,535 whether there is a node, and then of each node
abbrev pub root_asks : Drawing → List Asked
root_asks d =
    record { question = OneRoot; place = 65535; yes = nat_lt 0 (length d.nodes) }
    ∷ asked_up_to (length d.nodes) (λ k. record { question = OneRoot; place = k; yes = attached d.nodes k } ∷ [])

-- question 9 of each node
abbrev pub binder_asks : Drawing → List Asked
binder_asks d = asked_up_to (length d.nodes) (λ k. record { question = BindersFew; place = k; yes = binders_few d.nodes k } ∷ [])

-- question 10 of each arrow
abbrev pub scope_asks : Drawing → List Asked
scope_asks d = asked_up_to (length d.arrows) (λ j. record { question = VariablesInScope; place = j; yes = in_scope d.nodes (slice_index_or d.arrows j blank_arrow) } ∷ [])

-- questions 8, 9 and 10, each of everything before the next
abbrev pub whole_asks : Drawing → List Asked
whole_asks d = root_asks d ++ (binder_asks d ++ scope_asks d)

-- questions 2 to 7 of the first n records, one record after the other
abbrev pub records_asks : List ℕ → ℕ → List Asked
records_asks b n = asked_up_to n (λ i. record_asks b (start_of b i) i (drawn_by b i))

-- question 1, and then 2 to 7 of one record after the other
abbrev pub file_asks : List ℕ → List Asked
file_asks b = record { question = FileWithinLimit; place = 0; yes = nat_le (length b) 16384 } ∷ records_asks b (records b)

-- all questions of a file, in the order in which they are asked
unfoldable pub asks : List ℕ → List Asked
asks b = file_asks b ++ whole_asks (drawn_by b (records b))

-- what a reading gives: the fault of the first question that is answered no, or what the records draw
abbrev pub reading : List ℕ → Result Drawing Fault
reading b = answer_or (refusal (asks b)) (drawn_by b (records b))

-- a reading answers the number of nodes
abbrev pub answer_of : Result Drawing Fault → Result ℕ Fault
answer_of (Ok d) = Ok (length d.nodes)
answer_of (Err f) = Err f

-- and leaves what was drawn, or nothing
abbrev pub left_by : Result Drawing Fault → Drawing
left_by (Ok d) = d
left_by (Err f) = nothing_drawn

-- a file is refused with a question at a place: every question that comes before is answered yes, and this one no
abbrev pub Refused : List ℕ → Fault → Type 0
Refused b f = FirstNo (asks b) f

-- a file is accepted: every question is answered yes
abbrev pub Accepted : List ℕ → Type 0
Accepted b = AllYes (asks b)
