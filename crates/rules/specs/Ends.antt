-- The ends of the chains over a list of events, computed: rising, each once. Nobody has to believe this file: theorems say what the list holds.
use Rattle.std.specs.Prelude.{Bool, false, ◌||◌, List, [], ◌∷◌, ◌++◌}
use Rattle.std.specs.declared.cmp.Ordering.{Ordering}
use Rattle.ordered.specs.Order.{insert_ordered}
use Rattle.row.specs.Rows.{cells_rank}
use Rattle.event.specs.declared.event.Event.{Event}
use Rattle.host.specs.Meanings.{Meaning}
use Rattle.rules.specs.Trees.{Tree, Guards, no_variables}
use Rattle.rules.specs.Cells.{Cells, initial, finished}
use Rattle.rules.specs.Moves.{over, moves}
use Rattle.rules.specs.Chains.{answers_after}

-- the elements of a list in rising order, each once
unfoldable pub arranged : {X : Type 0} → (X → X → Ordering) → List X → List X
arranged c [] = []
arranged c (x ∷ xs) = insert_ordered c (arranged c xs) x

-- all successors of all of a list, in rising order, each once
abbrev pub successors : Tree → Guards → Event → List Cells → List Cells
successors t g e l = arranged cells_rank (over (λ r. moves t g e no_variables r) l)

-- what a list becomes by events that come after the events `before`
abbrev pub ends_from : Tree → Meaning → List Event → List Cells → List Event → List Cells
ends_from t m before l [] = l
ends_from t m before l (e ∷ es) = ends_from t m (before ++ e ∷ []) (successors t (answers_after m before e) e l) es

-- the ends of the chains over a list of events
abbrev pub ends : Tree → Meaning → List Event → List Cells
ends t m events = ends_from t m [] (initial t ∷ []) events

-- whether some of a list is finished
abbrev pub some_finished : Tree → List Cells → Bool
some_finished t [] = false
some_finished t (r ∷ l) = finished t r || some_finished t l
