-- Ways to move: sets of cells, told by a predicate, and how the rules of an operator are made of those of its parts.
use Rattle.std.specs.Prelude.{◌≡◌, ℕ, suc, ◌+◌, Bool, true, ◌⊎◌, List, ◌++◌, length, Some}
use Rattle.std.specs.List.{slice_get}
use mathlib.Core.List.{Memᴰ}
use Rattle.event.specs.declared.event.Event.{Event}
use Rattle.host.specs.declared.variables.Variables.{Variables}
use Rattle.rules.specs.Trees.{NumberedArrow, Tree, Guards}
use Rattle.rules.specs.Cells.{Cells, cell, rest, part, in_state, tagged, initial}
use Rattle.rules.specs.Rules.{Leads}

-- cells of a kind
abbrev pub Way : Type 1
Way = Cells → Type 0

-- the same cells
pub record Alike (P Q : Way) : Type 0 where
  pub to : (s : Cells) → P s → Q s
  pub fro : (s : Cells) → Q s → P s

-- there are some
abbrev pub Any : Way → Type 0
Any P = (s : Cells) × P s

-- each of them is n long
abbrev pub Long : ℕ → Way → Type 0
Long n P = (s : Cells) → P s → length s ≡ n

-- those of P, if a test holds
abbrev pub If : Bool → Way → Way
If test P s = (test ≡ true) × P s

-- those of P and those of Q
abbrev pub Either : Way → Way → Way
Either P Q s = P s ⊎ Q s

-- those of P behind a tag, in m cells of room
abbrev pub Tagged : ℕ → ℕ → Way → Way
Tagged m tag P r' = (s' : Cells) × P s' × (r' ≡ tagged m tag s')

-- those of P, and then the cells q
abbrev pub Left : Way → Cells → Way
Left P q r' = (s' : Cells) × P s' × (r' ≡ s' ++ q)

-- the cells p, and then those of Q
abbrev pub Right : Cells → Way → Way
Right p Q r' = (t' : Cells) × Q t' × (r' ≡ p ++ t')

-- those of P, and then those of Q
abbrev pub Joined : Way → Way → Way
Joined P Q r' = (s' t' : Cells) × P s' × Q t' × (r' ≡ s' ++ t')

-- for some value, those of P behind its position, which is counted from j + 1
abbrev pub Chosen : ℕ → ℕ → (ℕ → Way) → List ℕ → Way
Chosen m j P xs r' = (k x : ℕ) × (slice_get xs k ≡ Some x) × Tagged m (suc (j + k)) (P x) r'

-- those of P for the value whose position, counted from 1, is the tag, behind it
abbrev pub Resumed : ℕ → (ℕ → Way) → List ℕ → ℕ → Way
Resumed m P xs tag r' = (k x : ℕ) × (tag ≡ suc k) × (slice_get xs k ≡ Some x) × Tagged m (suc k) (P x) r'

-- the starts of the targets of the arrows that lead out of an automaton's present state
abbrev pub Led : ℕ → (ℕ → Tree) → List NumberedArrow → Guards → Event → Variables → Cells → Way
Led count child arrows g e v r r' =
    (a : NumberedArrow) × Memᴰ a arrows × Leads g e v (cell r) (child (cell r)) (part (child (cell r)) (rest r)) a.arrow
    × (r' ≡ in_state count child a.arrow.to (initial (child a.arrow.to)))
