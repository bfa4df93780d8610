-- How an event moves the parts of a row, and what the search promises of it.
use Rattle.std.specs.Prelude.{◌≡◌, ℕ, ◌+◌, ◌-◌, ◌<◌, ◌≤◌, ◌⊎◌, Bool, Decides, List, length, drop, Option, Some, Result, slice_index}
use Rattle.std.specs.List.{slice_get}
use mathlib.Core.List.{Memᴰ}
use Rattle.notation.specs.declared.arrow.Arrow.{Arrow}
use Rattle.notation.specs.declared.node.States.{States}
use Rattle.ordered.specs.Held.{room}
use Rattle.row.specs.Rows.{OrderedRows}
use Rattle.row.specs.declared.row.Row.{Row}
use Rattle.rules.specs.Trees.{Tree, Guards, bound}
use Rattle.rules.specs.Cells.{Cells, width, initial, tagged, times}
use Rattle.rules.specs.Rules.{Motion, Leads, Step, OneMoves, AllMove}
use Rattle.rules.specs.Growing.{state_of, child_tree}
use Rattle.motions.specs.Framing.{part_at, framed, Framed}
use Rattle.motions.specs.Ways.{Way, Any, If, Tagged, Joined, Chosen, Resumed}
use Rattle.motions.specs.Collecting.{Added, EitherRow, FromEach}
use Rattle.diagram.specs.Valued.{values_of}
use Rattle.diagram.specs.Plans.{nodes_of, arrows_in, tree_at}
use Rattle.diagram.specs.Owning.{own_arrows, labelled_arrows}
use Rattle.diagram.specs.Scopes.{binders_at, typed_under, Suits}
use Rattle.diagram.specs.Parts.{part_tree, part_width, InPlace}
use Rattle.diagram.specs.declared.diagram.Diagram.{Diagram}
use Rattle.diagram.specs.declared.part.Part.{Part}
use Rattle.answers.specs.Answering.{Agrees}
use Rattle.answers.specs.declared.answers.Answers.{Answers}
use Rattle.search.specs.declared.search.Search.{Search}

-- the cells to which the event of the answers moves some cells of a part, where g is what each guard answers to it
abbrev pub moves_from : Diagram → Answers → Guards → Part → Cells → Way
moves_from d a g p s = Step (part_tree d p) g a.event p.scope.variables s

-- the cells of a part in a row
abbrev pub cells_of : Diagram → Part → Row → Cells
cells_of d p r = part_at (part_width d p) r.cells p.at

-- the cells to which the event moves a part of a row
abbrev pub successors : Diagram → Answers → Guards → Part → Row → Way
successors d a g p r = moves_from d a g p (cells_of d p r)

-- the cells to which it moves a part from its initial state
abbrev pub starts : Diagram → Answers → Guards → Part → Way
starts d a g p = moves_from d a g p (initial (part_tree d p))

-- y is the row with this part replaced by a successor of it
abbrev pub Reached : Diagram → Answers → Guards → Part → Row → Row → Type 0
Reached d a g p r y = Framed r.cells p.at (part_width d p) (successors d a g p r) y

-- an arrow has a number in the file
abbrev pub IsArrow : Diagram → ℕ → Arrow → Type 0
IsArrow d number w = slice_get (arrows_in d.plan) number ≡ Some w

-- the numbers of a node's arrows, or of those with a label
abbrev pub LookedAt : List Arrow → ℕ → ℕ → List ℕ → Type 0
LookedAt ws node label numbers = (numbers ≡ own_arrows ws node) ⊎ (numbers ≡ labelled_arrows ws label)

-- an arrow of the automaton at a part leads out of a state, whose child has its cells behind the state's number
abbrev pub LeadsFrom : Diagram → Answers → Guards → Part → ℕ → Option ℕ → Row → Arrow → Type 0
LeadsFrom d a g p state child r w =
    (w.node ≡ p.node)
    × Leads g a.event p.scope.variables state (child_tree (tree_at d.plan) child) (part_at (width (child_tree (tree_at d.plan) child)) r.cells (p.at + 1)) w

-- the row with a tag at the part, then the initial cells of a tree, and 0 in the rest of the part
abbrev pub entered : Diagram → Part → ℕ → Tree → Row → Cells
entered d p tag t r = framed r.cells p.at (part_width d p) (tagged (part_width d p - 1) tag (initial t))

-- y is the row in which the automaton at a part has gone to the target of an arrow that leads out of the state
abbrev pub Follows : Diagram → Answers → Guards → Part → States → ℕ → Option ℕ → Row → Arrow → Row → Type 0
Follows d a g p s state child r w y = LeadsFrom d a g p state child r w × (y.cells ≡ entered d p w.to (child_tree (tree_at d.plan) (state_of s w.to).child) r)

-- the same of one of some arrows of the file, which have the numbers from 0 on
abbrev pub Fired : List Arrow → Diagram → Answers → Guards → Part → States → ℕ → Option ℕ → Row → Row → Type 0
Fired ws d a g p s state child r y = (w : Arrow) × Memᴰ w ws × Follows d a g p s state child r w y

-- a child of a part's node, whose cells stand behind a tag
pub record Behind (d : Diagram) (p c : Part) : Type 0 where
  pub in_place : InPlace d c
  pub is_below : c.node < p.node
  pub is_behind : c.at ≡ p.at + 1
  pub is_narrower : part_width d c < part_width d p

-- one that has the part's variables in scope
pub record Child (d : Diagram) (p c : Part) : Type 0 where
  pub behind : Behind d p c
  pub same_scope : c.scope ≡ p.scope

-- the two sides of a part's node, one beside the other
pub record Beside (d : Diagram) (p l r : Part) : Type 0 where
  pub left_in_place : InPlace d l
  pub right_in_place : InPlace d r
  pub left_is_below : l.node < p.node
  pub right_is_below : r.node < p.node
  pub left_is_first : l.at ≡ p.at
  pub right_is_beside : r.at ≡ p.at + part_width d l
  pub left_scope : l.scope ≡ p.scope
  pub right_scope : r.scope ≡ p.scope

-- the body of a part's node, which binds a variable over a type; its scope is that of the node
pub record Bound (d : Diagram) (p : Part) (over : ℕ) (b : Part) : Type 0 where
  pub is_node : p.node < length (nodes_of d.plan)
  pub is_below : b.node < p.node
  pub above : binders_at d.binders b.node ≡ typed_under (binders_at d.binders p.node).outer over
  pub suits : Suits (values_of d.plan.values) (binders_at d.binders p.node) b.scope
  pub same_scope : b.scope ≡ p.scope

-- the values of a type from a position on, counted from 0
abbrev pub values_from : Diagram → ℕ → ℕ → List ℕ
values_from d over k = drop k (values_of d.plan.values over)

-- how the instances of a body move one by one, each under its own value
abbrev pub instance_moves : Diagram → Answers → Guards → Part → ℕ → Motion
instance_moves d a g b x = Step (part_tree d b) g a.event (bound x b.scope.variables)

-- the cells of the instances from a position on, of which the first begins where the body does
abbrev pub instance_cells : Diagram → ℕ → Part → ℕ → Row → Cells
instance_cells d over b k r = part_at (times (values_from d over k) (part_width d b)) r.cells b.at

-- the cells to which the event moves one of them, and all of them
abbrev pub one_moves : Diagram → Answers → Guards → ℕ → Part → ℕ → Row → Way
one_moves d a g over b k r = OneMoves (part_width d b) (instance_moves d a g b) (values_from d over k) (instance_cells d over b k r)

abbrev pub all_move : Diagram → Answers → Guards → ℕ → Part → ℕ → Row → Way
all_move d a g over b k r = AllMove (part_width d b) (instance_moves d a g b) (values_from d over k) (instance_cells d over b k r)

-- y is the row with the instances from a position on replaced by cells of P
abbrev pub InstancesReached : Diagram → ℕ → Part → ℕ → Row → Way → Row → Type 0
InstancesReached d over b k r P y = Framed r.cells b.at (times (values_from d over k) (part_width d b)) P y

-- they are within a row
abbrev pub InstancesInside : Diagram → ℕ → Part → ℕ → Type 0
InstancesInside d over b k = b.at + times (values_from d over k) (part_width d b) ≤ 48

-- y is the row with the part replaced by cells of P
abbrev pub PartReached : Diagram → Part → Row → Way → Row → Type 0
PartReached d p r P y = Framed r.cells p.at (part_width d p) P y

-- ---- what a search promises, for all answers of guards that its table agrees with

-- the rows of X are added to a list of at most 128 places, where P holds
abbrev pub CollectsIf : {E : Type 0} → Search → (Guards → Type 0) → (Guards → Row → Type 0) → OrderedRows → OrderedRows → Result (Unit {0}) E → Type 0
CollectsIf s P X before after r = (g : Guards) → Agrees s.diagram.now s.answers.now g → room before ≤ 128 → P g → Added (X g) before after r

-- the same without a condition
abbrev pub Collects : {E : Type 0} → Search → (Guards → Row → Type 0) → OrderedRows → OrderedRows → Result (Unit {0}) E → Type 0
Collects s X before after r = (g : Guards) → Agrees s.diagram.now s.answers.now g → room before ≤ 128 → Added (X g) before after r

-- an answer says whether there are cells of a kind
abbrev pub DecidesAny : Search → (Guards → Way) → Bool → Type 0
DecidesAny s P answer = (g : Guards) → Agrees s.diagram.now s.answers.now g → Decides answer (Any (P g))

-- the cells to which the event moves a part of a row
abbrev pub successors_of : Search → Part → Row → Guards → Way
successors_of s p r g = successors s.diagram.now s.answers.now g p r

-- the row with the part replaced by each of them
abbrev pub RowsOfPart : Search → Part → Row → Guards → Row → Type 0
RowsOfPart s p r g y = Reached s.diagram.now s.answers.now g p r y

-- the same of each of some rows
abbrev pub RowsOfEach : Search → Part → List Row → Guards → Row → Type 0
RowsOfEach s p rows g y = FromEach rows (λ x z. RowsOfPart s p x g z) y

-- the part replaced by a tag and each way of a child from its initial state, if that is allowed
abbrev pub RowsOfStart : Search → Bool → ℕ → Part → Part → Row → Guards → Row → Type 0
RowsOfStart s allowed tag p c r g y =
    PartReached s.diagram.now p r (If allowed (Tagged (part_width s.diagram.now p - 1) tag (starts s.diagram.now s.answers.now g c))) y

-- the same from where the child is
abbrev pub RowsOfResume : Search → Bool → ℕ → Part → Part → Row → Guards → Row → Type 0
RowsOfResume s allowed tag p c r g y =
    PartReached s.diagram.now p r (If allowed (Tagged (part_width s.diagram.now p - 1) tag (successors s.diagram.now s.answers.now g c r))) y

-- the targets of the arrows of an automaton that lead out of its state
abbrev pub RowsOfArrows : Search → Part → States → Row → Guards → Row → Type 0
RowsOfArrows s p states r g y =
    Fired (arrows_in s.diagram.now.plan) s.diagram.now s.answers.now g p states (slice_index r.cells p.at) (state_of states (slice_index r.cells p.at)).child r y

-- the target of one arrow, if it does
abbrev pub RowsOfArrow : Search → Part → States → Arrow → Row → Guards → Row → Type 0
RowsOfArrow s p states w r g y =
    Follows s.diagram.now s.answers.now g p states (slice_index r.cells p.at) (state_of states (slice_index r.cells p.at)).child r w y

-- each way of one side, and of the other
abbrev pub RowsOfEitherSide : Search → Part → Part → Row → Guards → Row → Type 0
RowsOfEitherSide s left right r g y = EitherRow (RowsOfPart s left r g) (RowsOfPart s right r g) y

-- each way of one side with each of the other
abbrev pub RowsOfBothSides : Search → Part → Part → Part → Row → Guards → Row → Type 0
RowsOfBothSides s p left right r g y =
    Framed r.cells p.at (part_width s.diagram.now left + part_width s.diagram.now right) (Joined (successors_of s left r g) (successors_of s right r g)) y

-- the position of a value from k + 1 on, and each way of the body under it from its initial state
abbrev pub RowsOfSomeStart : Search → Part → ℕ → Part → ℕ → Row → Guards → Row → Type 0
RowsOfSomeStart s p over b k r g y =
    PartReached s.diagram.now p r
    (Chosen (part_width s.diagram.now p - 1) k (λ x s'. instance_moves s.diagram.now s.answers.now g b x (initial (part_tree s.diagram.now b)) s') (values_from s.diagram.now over k)) y

-- the chosen value's position, and each way of the body under it from where it is
abbrev pub RowsOfChosen : Search → Part → ℕ → Part → Row → Guards → Row → Type 0
RowsOfChosen s p over b r g y =
    PartReached s.diagram.now p r
    (Resumed (part_width s.diagram.now p - 1) (λ x s'. instance_moves s.diagram.now s.answers.now g b x (cells_of s.diagram.now b r) s') (values_from s.diagram.now over 0) (slice_index r.cells p.at)) y

-- each way of one of the instances from a position on
abbrev pub RowsOfOneInstance : Search → ℕ → Part → ℕ → Row → Guards → Row → Type 0
RowsOfOneInstance s over b k r g y = InstancesReached s.diagram.now over b k r (one_moves s.diagram.now s.answers.now g over b k r) y

-- the ways of all of them together
abbrev pub all_ways : Search → ℕ → Part → ℕ → Row → Guards → Way
all_ways s over b k r g = all_move s.diagram.now s.answers.now g over b k r

abbrev pub RowsOfAllInstances : Search → ℕ → Part → ℕ → Row → Guards → Row → Type 0
RowsOfAllInstances s over b k r g y = InstancesReached s.diagram.now over b k r (all_ways s over b k r g) y

-- the same of each of some rows
abbrev pub RowsOfAllInstancesOfEach : Search → ℕ → Part → ℕ → List Row → Guards → Row → Type 0
RowsOfAllInstancesOfEach s over b k rows g y = FromEach rows (λ x z. RowsOfAllInstances s over b k x g z) y
