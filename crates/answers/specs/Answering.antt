-- What is kept of the answers of guards to an event.
use Rattle.std.specs.Prelude.{◌≡◌, ℕ, ◌<◌, ◌≤◌, Bool, true, List, Option, Some, None, [], ◌==◌, length, replicate, slice_index_or}
use Rattle.std.specs.Int.{bit_at}
use Rattle.std.specs.List.{slice_get}
use Rattle.event.specs.declared.event.Event.{Event}
use Rattle.host.specs.declared.variables.Variables.{Variables}
use Rattle.notation.specs.declared.arrow.Arrow.{Arrow}
use Rattle.notation.specs.declared.node.Node.TheVariants.{Guard}
use Rattle.rules.specs.Trees.{Guards}
use Rattle.rules.specs.Rules.{Carries}
use Rattle.diagram.specs.Valued.{values_of}
use Rattle.diagram.specs.Plans.{nodes_of, arrows_in}
use Rattle.diagram.specs.Scopes.{binders_at, variables_at}
use Rattle.answers.specs.declared.answers.Answers.{Answers}
use Rattle.answers.specs.declared.answers.Replies.{Replies}
use Rattle.answers.specs.declared.place.Place.{Place}
use Rattle.diagram.specs.declared.diagram.Diagram.{Diagram}

-- the answer at two positions
abbrev pub reply_in : List ℕ → ℕ → ℕ → Bool
reply_in rows outer inner = bit_at (slice_index_or rows outer 0) inner == 1

-- the rows of an entry; where there is none, no row
abbrev pub rows_of : Option Replies → List ℕ
rows_of None = []
rows_of (Some r) = r.rows

-- the answer that a node got, and that an arrow got
abbrev pub node_answer : Answers → ℕ → ℕ → ℕ → Bool
node_answer a i outer inner = reply_in (rows_of (slice_get a.nodes.now i)) outer inner

abbrev pub arrow_answer : Answers → ℕ → ℕ → ℕ → Bool
arrow_answer a k outer inner = reply_in (rows_of (slice_get a.arrows.now k)) outer inner

-- the answer at a place matters: at an arrow only where the arrow carries the event
abbrev pub Matters : Option Arrow → Event → Variables → Type 0
Matters None e v = Unit {0}
Matters (Some w) e v = Carries w e v

-- this is what the guard of a place answers to an event under the variables at two positions, if they are positions of values and it matters
-- there; elsewhere it may be anything
abbrev pub IsAnswer : Diagram → Guards → Event → Place → ℕ → ℕ → Bool → Type 0
IsAnswer d g e p outer inner answer = (v : Variables) → variables_at (values_of d.plan.values) p.binders outer inner ≡ Some v → Matters p.arrow e v → answer ≡ g p.guard v

-- the same of a row of answers, one for each position of the inner variable, and of rows, one for each of the outer one
abbrev pub IsRow : Diagram → Guards → Event → Place → ℕ → ℕ → Type 0
IsRow d g e p outer row = (inner : ℕ) → IsAnswer d g e p outer inner (bit_at row inner == 1)

abbrev pub AreRows : Diagram → Guards → Event → Place → List ℕ → Type 0
AreRows d g e p rows = (outer inner : ℕ) → IsAnswer d g e p outer inner (reply_in rows outer inner)

-- where a node is a guard, these are its answers
abbrev pub AreOfNode : Diagram → Guards → Event → ℕ → List ℕ → Type 0
AreOfNode d g e i rows = (guard body : ℕ) → slice_get (nodes_of d.plan) i ≡ Some (Guard guard body)
    → AreRows d g e (record { guard = guard; binders = binders_at d.binders i; arrow = None }) rows

-- where an arrow has a guard, these are its answers
abbrev pub AreOfArrow : Diagram → Guards → Event → ℕ → List ℕ → Type 0
AreOfArrow d g e k rows = (guard : ℕ) (w : Arrow) → slice_get (arrows_in d.plan) k ≡ Some w → w.guard ≡ Some guard
    → AreRows d g e (record { guard = guard; binders = binders_at d.binders w.node; arrow = Some w }) rows

-- The table has what the guards answer to the event: at every node and arrow with a guard, for the variables that can be in scope there,
-- at an arrow only for those under which it carries the event. Every other entry may be anything.
pub record Agrees (d : Diagram) (a : Answers) (g : Guards) : Type 0 where
  pub nodes : (i : ℕ) → AreOfNode d g a.event i (rows_of (slice_get a.nodes.now i))
  pub arrows : (k : ℕ) → AreOfArrow d g a.event k (rows_of (slice_get a.arrows.now k))

-- no at every position
abbrev pub no_replies : Replies
no_replies = record { rows = replicate 17 0 }

-- so many entries are enough for the nodes and the arrows of a diagram
abbrev pub Enough : ℕ → ℕ → Diagram → Type 0
Enough n m d = (length (nodes_of d.plan) ≤ n) × (length (arrows_in d.plan) ≤ m)

-- each answer is yes, at the first n entries and the positions that there can be
abbrev pub AllYes : ℕ → List Replies → Type 0
AllYes n entries = (i outer inner : ℕ) → i < n → outer < 17 → inner < 17 → reply_in (rows_of (slice_get entries i)) outer inner ≡ true
