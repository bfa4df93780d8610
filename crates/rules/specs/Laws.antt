-- The theorems about the rules. Each is a statement that a public function of this crate carries.
use Rattle.std.specs.Prelude.{◌≡◌, ℕ, ◌+◌, ◌<◌, Bool, true, false, ◌⊎◌, ◌↔◌, List, [], ◌∷◌, ◌++◌, length, drop, Some}
use Rattle.std.specs.List.{slice_get}
use mathlib.Core.List.{Memᴰ}
use Rattle.ordered.specs.Order.{Rising}
use Rattle.row.specs.Rows.{cells_rank}
use Rattle.event.specs.Forms.{InForm, event_rank}
use Rattle.event.specs.declared.event.Event.{Event}
use Rattle.host.specs.Meanings.{Meaning}
use Rattle.notation.specs.Parts.{children_of}
use Rattle.notation.specs.declared.node.Mark.{Mark}
use Rattle.notation.specs.declared.node.Mark.TheVariants.{Unmarked, Shallow, Deep}
use Rattle.notation.specs.declared.node.Node.{Node}
use Rattle.procedure.specs.Procedures.{drawing}
use Rattle.procedure.specs.declared.procedure.Procedure.{Procedure}
use Rattle.host.specs.declared.variables.Variables.{Variables}
use Rattle.rules.specs.Trees.{NumberedArrow, Tree, elementary, automaton, sequence, closure, guarded, choice, synchronisation, quantified_choice, quantified_synchronisation, no_variables, bound, Guards}
use Rattle.rules.specs.Cells.{Cells, cell, rest, times, width, has_value, part, tagged, initial, finished, may_leave}
use Rattle.rules.specs.Rules.{in_set, Step}
use Rattle.rules.specs.Chains.{answers_after, Chain, IsEnd, GoesOn}
use Rattle.rules.specs.Growing.{Values, arrows_of, node_tree, tree_of}
use Rattle.rules.specs.Moves.{moves}
use Rattle.rules.specs.Ends.{ends}
use Rattle.rules.specs.Instances.{instance_at, EveryInstanceMoves, OneInstanceMoves}
use Rattle.rules.specs.InRange.{InRange, Sound}
use Rattle.rules.specs.Candidates.{Carried, candidates, menu}

-- ---- the computed moves

-- what is listed is derived
abbrev pub ListedIsDerived : Type 0
ListedIsDerived = (t : Tree) (g : Guards) (e : Event) (v : Variables) (r r' : Cells) → Memᴰ r' (moves t g e v r) → Step t g e v r r'

-- what is derived is listed
abbrev pub DerivedIsListed : Type 0
DerivedIsListed = (t : Tree) (g : Guards) (e : Event) (v : Variables) (r r' : Cells) → Step t g e v r r' → Memᴰ r' (moves t g e v r)

-- ---- chains

-- a chain over no event ends where it starts, and nowhere else
abbrev pub ChainsBegin : Type 0
ChainsBegin = (t : Tree) (m : Meaning) (start end : Cells) → Chain t m start [] end ↔ (end ≡ start)

-- the chains over one event more are those that go on with it, each to a successor of its end
abbrev pub ChainsGoOn : Type 0
ChainsGoOn =
    (t : Tree) (m : Meaning) (start : Cells) (before : List Event) (e : Event) (end : Cells)
    → Chain t m start (before ++ e ∷ []) end ↔ ((r : Cells) × Chain t m start before r × Step t (answers_after m before e) e no_variables r end)

-- what a host means after some events
abbrev pub meaning_after : List Event → Meaning → Meaning
meaning_after before m events guard e v = m (before ++ events) guard e v

-- a chain over two lists of events is one over the first, and from its end one over the second by what the host means then
abbrev pub ChainsJoin : Type 0
ChainsJoin =
    (t : Tree) (m : Meaning) (start : Cells) (before events : List Event) (end : Cells)
    → Chain t m start (before ++ events) end ↔ ((r : Cells) × Chain t m start before r × Chain t (meaning_after before m) r events end)

-- ---- the computed ends

-- the list holds exactly the ends of the chains
abbrev pub EndsAreListed : Type 0
EndsAreListed = (t : Tree) (m : Meaning) (events : List Event) (r : Cells) → Memᴰ r (ends t m events) ↔ IsEnd t m events r

-- it rises, so each end stands there once
abbrev pub EndsRise : Type 0
EndsRise = (t : Tree) (m : Meaning) (events : List Event) → Rising cells_rank (ends t m events)

-- any rising list of exactly the ends is that list
abbrev pub OnlyOneListOfEnds : Type 0
OnlyOneListOfEnds =
    (t : Tree) (m : Meaning) (events : List Event) (l : List Cells)
    → Rising cells_rank l → ((r : Cells) → Memᴰ r l ↔ IsEnd t m events r) → l ≡ ends t m events

-- ---- widths

-- a part begins with as many cells as it takes
abbrev pub InitialHasWidth : Type 0
InitialHasWidth = (t : Tree) → length (initial t) ≡ width t

-- and keeps that many, if it has them
abbrev pub SuccessorHasWidth : Type 0
SuccessorHasWidth = (t : Tree) (g : Guards) (e : Event) (v : Variables) (r r' : Cells) → length r ≡ width t → Step t g e v r r' → length r' ≡ width t

-- so every end has that many
abbrev pub EndHasWidth : Type 0
EndHasWidth = (t : Tree) (m : Meaning) (events : List Event) (r : Cells) → IsEnd t m events r → length r ≡ width t

-- ---- cells in range

-- every diagram of a procedure is sound
abbrev pub ProceduresAreSound : Type 0
ProceduresAreSound = (p : Procedure) (values : Values) (node : ℕ) → Sound (tree_of values (drawing p) node)

-- in a sound diagram the cells begin in range
abbrev pub InitialInRange : Type 0
InitialInRange = (t : Tree) → Sound t → InRange t (initial t)

-- and stay in range, where they are as many as the part takes
abbrev pub SuccessorInRange : Type 0
SuccessorInRange =
    (t : Tree) (g : Guards) (e : Event) (v : Variables) (r r' : Cells) → Sound t → length r ≡ width t → InRange t r → Step t g e v r r' → InRange t r'

-- so every end is in range
abbrev pub EndInRange : Type 0
EndInRange = (t : Tree) (m : Meaning) (events : List Event) (r : Cells) → Sound t → IsEnd t m events r → InRange t r

-- ---- synchronisations, side by side and by position

-- with a label in the set both sides move, and nothing else is there afterwards
abbrev pub BothSidesMove : Type 0
BothSidesMove =
    (labels : List ℕ) (a b : Tree) (g : Guards) (e : Event) (v : Variables) (r r' : Cells) → in_set e.label labels ≡ true
    → Step (synchronisation labels a b) g e v r r'
    ↔ ((length r' ≡ width a + width b) × Step a g e v (part a r) (part a r') × Step b g e v (part b (drop (width a) r)) (part b (drop (width a) r')))

-- with a label outside the set one side moves and the other stays, and nothing else is there afterwards
abbrev pub OneSideMoves : Type 0
OneSideMoves =
    (labels : List ℕ) (a b : Tree) (g : Guards) (e : Event) (v : Variables) (r r' : Cells) → in_set e.label labels ≡ false
    → Step (synchronisation labels a b) g e v r r'
    ↔ ((length r' ≡ width a + width b)
    × ((Step a g e v (part a r) (part a r') × (part b (drop (width a) r') ≡ part b (drop (width a) r)))
    ⊎ (Step b g e v (part b (drop (width a) r)) (part b (drop (width a) r')) × (part a r' ≡ part a r))))

-- with a label in the set, and at least one value, every instance moves, each under its own value
abbrev pub AllInstancesMove : Type 0
AllInstancesMove =
    (xs labels : List ℕ) (b : Tree) (g : Guards) (e : Event) (v : Variables) (r r' : Cells) → in_set e.label labels ≡ true → has_value xs ≡ true
    → Step (quantified_synchronisation xs labels b) g e v r r' ↔ EveryInstanceMoves (width b) (λ x. Step b g e (bound x v)) xs r r'

-- with a label outside the set one instance moves, under its own value, and the others stay (of as many cells as all instances take)
abbrev pub OneInstanceMovesAlone : Type 0
OneInstanceMovesAlone =
    (xs labels : List ℕ) (b : Tree) (g : Guards) (e : Event) (v : Variables) (r r' : Cells) → in_set e.label labels ≡ false → length r ≡ times xs (width b)
    → Step (quantified_synchronisation xs labels b) g e v r r' ↔ OneInstanceMoves (width b) (λ x. Step b g e (bound x v)) xs r r'

-- without a value nothing moves
abbrev pub NoInstanceNoMove : Type 0
NoInstanceNoMove = (labels : List ℕ) (b : Tree) (g : Guards) (e : Event) (v : Variables) (r r' : Cells) → Step (quantified_synchronisation [] labels b) g e v r r' → ⊥

-- a synchronisation is finished exactly when both sides are
abbrev pub BothSidesFinish : Type 0
BothSidesFinish =
    (labels : List ℕ) (a b : Tree) (r : Cells)
    → (finished (synchronisation labels a b) r ≡ true) ↔ ((finished a (part a r) ≡ true) × (finished b (part b (drop (width a) r)) ≡ true))

-- a quantified synchronisation is finished exactly when the instance at every position is
abbrev pub EveryInstanceFinishes : Type 0
EveryInstanceFinishes =
    (xs labels : List ℕ) (b : Tree) (r : Cells)
    → (finished (quantified_synchronisation xs labels b) r ≡ true) ↔ ((i : ℕ) → i < length xs → finished b (instance_at (width b) i r) ≡ true)

-- ---- points where readings go astray

-- a state without a mark is not finished
abbrev pub UnmarkedUnfinished : Type 0
UnmarkedUnfinished =
    (count start : ℕ) (mark : ℕ → Mark) (child : ℕ → Tree) (arrows : List NumberedArrow) (r : Cells)
    → mark (cell r) ≡ Unmarked → finished (automaton count start mark child arrows) r ≡ false

-- one that is marked shallow is, whatever its child does
abbrev pub ShallowFinished : Type 0
ShallowFinished =
    (count start : ℕ) (mark : ℕ → Mark) (child : ℕ → Tree) (arrows : List NumberedArrow) (r : Cells)
    → mark (cell r) ≡ Shallow → finished (automaton count start mark child arrows) r ≡ true

-- one that is marked deep is exactly when its child is
abbrev pub DeepFinished : Type 0
DeepFinished =
    (count start : ℕ) (mark : ℕ → Mark) (child : ℕ → Tree) (arrows : List NumberedArrow) (r : Cells)
    → mark (cell r) ≡ Deep → (finished (automaton count start mark child arrows) r ≡ true) ↔ (finished (child (cell r)) (part (child (cell r)) (rest r)) ≡ true)

-- a sequence in its first part is finished exactly when that part is and the second part's initial state is too
abbrev pub SequenceFinished : Type 0
SequenceFinished =
    (a b : Tree) (r : Cells) → cell r ≡ 0 → (finished (sequence a b) r ≡ true) ↔ ((finished a (part a (rest r)) ≡ true) × (finished b (initial b) ≡ true))

-- a started guard moves exactly as its body does, whatever the guard answers
abbrev pub GuardAskedOnce : Type 0
GuardAskedOnce =
    (guard : ℕ) (b : Tree) (g : Guards) (e : Event) (v : Variables) (r r' : Cells) → cell r ≡ 1
    → Step (guarded guard b) g e v r r' ↔ ((s' : Cells) × Step b g e v (part b (rest r)) s' × (r' ≡ tagged (width b) 1 s'))

-- a guard that is not started is finished exactly when its body's initial state is
abbrev pub GuardFinished : Type 0
GuardFinished = (guard : ℕ) (b : Tree) (r : Cells) → cell r ≡ 0 → (finished (guarded guard b) r ≡ true) ↔ (finished b (initial b) ≡ true)

-- a closure that is not started moves exactly as its body does from its initial state
abbrev pub ClosureStarts : Type 0
ClosureStarts =
    (b : Tree) (g : Guards) (e : Event) (v : Variables) (r r' : Cells) → cell r ≡ 0
    → Step (closure b) g e v r r' ↔ ((s' : Cells) × Step b g e v (initial b) s' × (r' ≡ tagged (width b) 1 s'))

-- a started closure whose body is not finished moves exactly as its body does
abbrev pub ClosureRestartsOnlyFinished : Type 0
ClosureRestartsOnlyFinished =
    (b : Tree) (g : Guards) (e : Event) (v : Variables) (r r' : Cells) → cell r ≡ 1 → finished b (part b (rest r)) ≡ false
    → Step (closure b) g e v r r' ↔ ((s' : Cells) × Step b g e v (part b (rest r)) s' × (r' ≡ tagged (width b) 1 s'))

-- a started closure whose body is finished also restarts
abbrev pub FinishedClosureRestarts : Type 0
FinishedClosureRestarts =
    (b : Tree) (g : Guards) (e : Event) (v : Variables) (r s' : Cells) → cell r ≡ 1 → finished b (part b (rest r)) ≡ true
    → Step b g e v (initial b) s' → Step (closure b) g e v r (tagged (width b) 1 s')

-- no arrow waits for an elementary state
abbrev pub ElementaryIsNotWaitedFor : Type 0
ElementaryIsNotWaitedFor = (waits : Bool) (s : Cells) → may_leave waits elementary s ≡ true

-- a choice that is not begun is finished exactly when either side's initial state is
abbrev pub ChoiceFinished : Type 0
ChoiceFinished = (a b : Tree) (r : Cells) → cell r ≡ 0 → (finished (choice a b) r ≡ true) ↔ ((finished a (initial a) ≡ true) ⊎ (finished b (initial b) ≡ true))

-- a quantified choice that is not begun, and has a value, is finished exactly when its body's initial state is
abbrev pub QuantifiedChoiceFinished : Type 0
QuantifiedChoiceFinished =
    (xs : List ℕ) (b : Tree) (r : Cells) → cell r ≡ 0 → has_value xs ≡ true → (finished (quantified_choice xs b) r ≡ true) ↔ (finished b (initial b) ≡ true)

-- ---- events that can move a diagram

-- an event with a successor is carried by some arrow under some values of the binders above it
abbrev pub SuccessorIsCarried : Type 0
SuccessorIsCarried = (t : Tree) (g : Guards) (e : Event) (v : Variables) (r r' : Cells) → Step t g e v r r' → Carried t e v

-- where guards say yes to more, whatever moved still moves
abbrev pub MoreGuardsMoveMore : Type 0
MoreGuardsMoveMore =
    (t : Tree) (g g' : Guards) (e : Event) (v : Variables) (r r' : Cells)
    → ((guard : ℕ) (w : Variables) → g guard w ≡ true → g' guard w ≡ true) → Step t g e v r r' → Step t g' e v r r'

-- in a sound diagram a carried event in form is a candidate
abbrev pub CarriedIsCandidate : Type 0
CarriedIsCandidate = (t : Tree) (e : Event) (v : Variables) → Sound t → InForm e → Carried t e v → Memᴰ e (candidates t v)

-- in a sound diagram an event in form is on the computed menu exactly when some chain goes on with it
abbrev pub MenuIsExact : Type 0
MenuIsExact = (t : Tree) (m : Meaning) (events : List Event) (e : Event) → Sound t → InForm e → Memᴰ e (menu t m events) ↔ GoesOn t m events e

-- whatever is on it, in form or not, some chain goes on with
abbrev pub MenuGoesOn : Type 0
MenuGoesOn = (t : Tree) (m : Meaning) (events : List Event) (e : Event) → Memᴰ e (menu t m events) → GoesOn t m events e

-- it rises, so each event stands there once
abbrev pub MenuRises : Type 0
MenuRises = (t : Tree) (m : Meaning) (events : List Event) → Rising event_rank (menu t m events)

-- ---- the trees of a procedure

-- the tree of a node is made of the trees of its children
abbrev pub TreesUnfold : Type 0
TreesUnfold =
    (p : Procedure) (values : Values) (i : ℕ) (n : Node) → slice_get (drawing p).nodes i ≡ Some n
    → tree_of values (drawing p) i ≡ node_tree values (arrows_of i 0 (drawing p).arrows) (tree_of values (drawing p)) n

-- children are below their node
abbrev pub ChildrenAreBelow : Type 0
ChildrenAreBelow = (p : Procedure) (i : ℕ) (n : Node) → slice_get (drawing p).nodes i ≡ Some n → (k : ℕ) → Memᴰ k (children_of n) → k < i
