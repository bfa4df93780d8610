-- Laws of what is collected.
use Rattle.std.specs.Prelude.{ℕ, ◌≤◌, List, length}
use Rattle.event.specs.declared.event.Event.{Event}
use Rattle.host.specs.declared.variables.Variables.{Variables}
use Rattle.row.specs.declared.row.Row.{Row}
use Rattle.rules.specs.Trees.{Tree, Guards}
use Rattle.rules.specs.Cells.{Cells, width}
use Rattle.rules.specs.Rules.{Step}
use Rattle.motions.specs.Framing.{part_at, Framed}
use Rattle.motions.specs.Collecting.{Gained, Exceeds}

-- y is the row with the cells r, where the part of the tree t that begins at `at` is replaced by a successor of it
abbrev pub Replaced : Tree → Guards → Event → Variables → Cells → ℕ → Row → Type 0
Replaced t g e v r at y = Framed r at (width t) (Step t g e v (part_at (width t) r at)) y

-- where the successors fit into n places with what was there before, they do not exceed them
abbrev pub FitExcludesOverflow : Type 0
FitExcludesOverflow =
    (t : Tree) (g : Guards) (e : Event) (v : Variables) (r : Cells) (at n : ℕ) (before after : List Row) → length after ≤ n
    → Gained (Replaced t g e v r at) before after → Exceeds (Replaced t g e v r at) n before → ⊥
