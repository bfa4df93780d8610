-- What a run was opened with, what it holds, and how it stands to the chains.
use Rattle.std.specs.Prelude.{◌≡◌, ℕ, List, [], ◌∷◌, Option, Some, None, Result, Ok, Err}
use Rattle.fault.specs.declared.fault.Fault.{Fault}
use Rattle.procedure.specs.Drawings.{Drawing}
use Rattle.event.specs.declared.event.Event.{Event}
use Rattle.host.specs.Meanings.{Meaning, Told}
use Rattle.rules.specs.Trees.{Tree, elementary}
use Rattle.rules.specs.Cells.{Cells, initial}
use Rattle.rules.specs.Growing.{Values}
use Rattle.diagram.specs.Valued.{kept_of}
use Rattle.law.specs.Chained.{HoldsEnds}
use Rattle.opened.specs.Opening.{told_values, root_tree}
use Rattle.opened.specs.States.{states_in}
use Rattle.opened.specs.Opens.{OpenedWith, with_of}
use Rattle.opened.specs.declared.opened.Opened.{Opened}
use Rattle.run.specs.declared.run.Run.{Run}

-- what an opened diagram was opened with, if there is one
abbrev pub opened_with_of : Option Opened → Option OpenedWith
opened_with_of None = None
opened_with_of (Some o) = Some (with_of o)

-- what a run was opened with; none, if it was never opened
abbrev pub opened_with : Run → Option OpenedWith
opened_with run = opened_with_of run.opened

-- the tree of the root of what was opened; without an opening, one that never moves
abbrev pub tree_with : Option OpenedWith → Tree
tree_with None = elementary
tree_with (Some o) = root_tree o.values o.drawing

-- the tree of a run's root
abbrev pub tree_in : Run → Tree
tree_in run = tree_with (opened_with run)

-- the ceiling that it was opened with; 0 without an opening
abbrev pub ceiling_with : Option OpenedWith → ℕ
ceiling_with None = 0
ceiling_with (Some o) = o.ceiling

-- a run's ceiling of held states
abbrev pub ceiling_in : Run → ℕ
ceiling_in run = ceiling_with (opened_with run)

-- the states of an opened diagram, if there is one
abbrev pub states_of_opened : Option Opened → List Cells
states_of_opened None = []
states_of_opened (Some o) = states_in o.held

-- the states that it holds, in order: of each as many cells as the root takes. A run that was never opened holds none.
abbrev pub states : Run → List Cells
states run = states_of_opened run.opened

-- A run stands as the law says, with d what a procedure draws, the values of each type, the ceiling, what the host meant at the opening,
-- and w the events taken since: its tree is that of this drawing under these values, and it has this ceiling; it holds exactly the ends of the chains
-- over w, in order, each once; and the host means now what m means after w.
pub record Stands (d : Drawing) (values : Values) (ceiling : ℕ) (m : Meaning) (w : List Event) (run : Run) (now : Meaning) : Type 0 where
  pub is_of : tree_in run ≡ root_tree values d
  pub has_ceiling : ceiling_in run ≡ ceiling
  pub holds : HoldsEnds (root_tree values d) m w (states run)
  pub told : Told m w now

-- P holds wherever the run and its host stand as the law says
abbrev pub WhereItStands : Run → Meaning → (Tree → ℕ → Meaning → List Event → Type 0) → Type 0
WhereItStands run now P =
    (d : Drawing) (values : Values) (ceiling : ℕ) (m : Meaning) (w : List Event) → Stands d values ceiling m w run now → P (root_tree values d) ceiling m w

-- where they stand so before some events are taken, they do afterwards
abbrev pub KeepsStanding : Run → Meaning → (List Event → List Event) → Run → Meaning → Type 0
KeepsStanding run now taken run' now' =
    (d : Drawing) (values : Values) (ceiling : ℕ) (m : Meaning) (w : List Event) → Stands d values ceiling m w run now → Stands d values ceiling m (taken w) run' now'

-- how many events a menu lists into so many places: all, or as many as there are places
abbrev pub listed_by : ℕ → Result ℕ Fault → ℕ
listed_by places (Ok n) = n
listed_by places (Err f) = places

-- an opening takes over what the procedure draws, what is kept of the values that a roster tells, and the ceiling, and holds the initial
-- state of the root's tree, which is the tree under all that the roster tells
pub record OpensRun (d : Drawing) (told : ℕ → Option (List ℕ)) (ceiling : ℕ) (run : Run) : Type 0 where
  pub takes_over : opened_with run ≡ Some (record { drawing = d; values = kept_of told; ceiling = ceiling })
  pub has_the_tree : tree_in run ≡ root_tree (told_values told) d
  pub begins : states run ≡ initial (root_tree (told_values told) d) ∷ []
