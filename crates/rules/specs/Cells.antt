-- The cells of a part: how many it takes, those it begins with, and when they are finished.
use Rattle.std.specs.Prelude.{ℕ, zero, suc, ◌+◌, max, Bool, true, false, ◌&&◌, ◌||◌, List, [], ◌∷◌, ◌++◌, drop}
use Rattle.notation.specs.declared.node.Mark.{Mark}
use Rattle.notation.specs.declared.node.Mark.TheVariants.{Unmarked, Shallow, Deep}
use Rattle.rules.specs.Trees.{Tree, elementary, automaton, sequence, closure, guarded, choice, synchronisation, quantified_choice, quantified_synchronisation}

-- the cells of a part, or of a whole state
abbrev pub Cells : Type 0
Cells = List ℕ

-- the first cell; 0 where there is none
abbrev pub cell : Cells → ℕ
cell [] = 0
cell (c ∷ r) = c

-- the cells after the first
abbrev pub rest : Cells → Cells
rest [] = []
rest (c ∷ r) = r

-- exactly n cells: the first n, filled up with 0
abbrev pub fit : ℕ → Cells → Cells
fit zero r = []
fit (suc n) r = cell r ∷ fit n (rest r)

-- the greatest of f 0, f 1, .. below f n
abbrev pub most : ℕ → (ℕ → ℕ) → ℕ
most zero f = 0
most (suc n) f = max (f n) (most n f)

-- n cells for each value
abbrev pub times : List ℕ → ℕ → ℕ
times [] n = 0
times (x ∷ xs) n = n + times xs n

-- the same cells for each value
abbrev pub copies : List ℕ → Cells → Cells
copies [] r = []
copies (x ∷ xs) r = r ++ copies xs r

-- n cells if there is a value, else none
abbrev pub if_values : List ℕ → ℕ → ℕ
if_values [] n = 0
if_values (x ∷ xs) n = n

-- whether there is a value
abbrev pub has_value : List ℕ → Bool
has_value [] = false
has_value (x ∷ xs) = true

-- How many cells a part takes: the most that its cells can be.
abbrev pub width : Tree → ℕ
width elementary = 0
width (automaton count start mark child arrows) = suc (most count (λ q. width (child q)))
width (sequence a b) = suc (max (width a) (width b))
width (closure b) = suc (width b)
width (guarded guard b) = suc (width b)
width (choice a b) = suc (max (width a) (width b))
width (synchronisation labels a b) = width a + width b
width (quantified_choice xs b) = suc (if_values xs (width b))
width (quantified_synchronisation xs labels b) = times xs (width b)

-- the room that an automaton keeps for the child of its present state
abbrev pub child_room : ℕ → (ℕ → Tree) → ℕ
child_room count child = most count (λ q. width (child q))

-- the room that two parts share when one of them is there at a time
abbrev pub shared_room : Tree → Tree → ℕ
shared_room a b = max (width a) (width b)

-- the room for the body of a quantified choice
abbrev pub body_room : List ℕ → Tree → ℕ
body_room xs b = if_values xs (width b)

-- the cells of the part t, where it begins with the first of r
abbrev pub part : Tree → Cells → Cells
part t r = fit (width t) r

-- an automaton in state q, whose child has the cells s
abbrev pub in_state : ℕ → (ℕ → Tree) → ℕ → Cells → Cells
in_state count child q s = q ∷ fit (child_room count child) s

-- a tag, then a part with the cells s in n cells of room
abbrev pub tagged : ℕ → ℕ → Cells → Cells
tagged n tag s = tag ∷ fit n s

-- The cells that a part begins with. An automaton begins in its start state, a sequence in its first part, synchronisations with
-- every part, each initial. The other kinds begin with 0 in every cell.
abbrev pub initial : Tree → Cells
initial elementary = []
initial (automaton count start mark child arrows) = in_state count child start (initial (child start))
initial (sequence a b) = tagged (shared_room a b) 0 (initial a)
initial (closure b) = tagged (width b) 0 []
initial (guarded guard b) = tagged (width b) 0 []
initial (choice a b) = tagged (shared_room a b) 0 []
initial (synchronisation labels a b) = initial a ++ initial b
initial (quantified_choice xs b) = tagged (body_room xs b) 0 []
initial (quantified_synchronisation xs labels b) = copies xs (initial b)

-- a marked state is finished, one that is marked deep when its child is
abbrev pub by_mark : Mark → Bool → Bool
by_mark Unmarked done = false
by_mark Shallow done = true
by_mark Deep done = done

-- x for the tag 0, y for any other
abbrev pub by_tag : ℕ → Bool → Bool → Bool
by_tag zero x y = x
by_tag (suc n) x y = y

-- x for the tag 0, y for 1, z for any other
abbrev pub by_side : ℕ → Bool → Bool → Bool → Bool
by_side zero x y z = x
by_side (suc n) x y z = by_tag n y z

-- each instance of n cells, one for each value, passes a test
abbrev pub all_instances : (Cells → Bool) → ℕ → List ℕ → Cells → Bool
all_instances test n [] r = true
all_instances test n (x ∷ xs) r = test (fit n r) && all_instances test n xs (drop n r)

-- Whether the cells of a part are finished. An elementary state is.
-- An automaton: its state is marked, and where it is marked deep the child is finished.
-- A sequence in its first part: that part is finished, and so is the second part's initial state; in its second part: that part is.
-- A closure: it is not started, or its body is finished.
-- A guard: its body is, the initial one if it is not started.
-- A choice not begun: either side's initial state is finished; then the chosen side.
-- A synchronisation: both sides are finished.
-- A quantified choice not begun: there is a value, and the body's initial state is finished; then the body.
-- A quantified synchronisation: every instance is finished.
abbrev pub finished : Tree → Cells → Bool
finished elementary r = true
finished (automaton count start mark child arrows) r = by_mark (mark (cell r)) (finished (child (cell r)) (part (child (cell r)) (rest r)))
finished (sequence a b) r = by_tag (cell r) (finished a (part a (rest r)) && finished b (initial b)) (finished b (part b (rest r)))
finished (closure b) r = by_tag (cell r) true (finished b (part b (rest r)))
finished (guarded guard b) r = by_tag (cell r) (finished b (initial b)) (finished b (part b (rest r)))
finished (choice a b) r = by_side (cell r) (finished a (initial a) || finished b (initial b)) (finished a (part a (rest r))) (finished b (part b (rest r)))
finished (synchronisation labels a b) r = finished a (part a r) && finished b (part b (drop (width a) r))
finished (quantified_choice xs b) r = by_tag (cell r) (has_value xs && finished b (initial b)) (finished b (part b (rest r)))
finished (quantified_synchronisation xs labels b) r = all_instances (λ s. finished b s) (width b) xs r

-- Whether an arrow may leave a state, by whether it waits: a waiting arrow asks that the state's child is finished.
-- An elementary state counts as finished.
abbrev pub may_leave : Bool → Tree → Cells → Bool
may_leave true child s = finished child s
may_leave false child s = true
