-- Chains of cells over a list of events.
use Rattle.std.specs.Prelude.{◌≡◌, List, [], ◌∷◌, ◌++◌}
use Rattle.event.specs.declared.event.Event.{Event}
use Rattle.host.specs.Meanings.{Meaning}
use Rattle.rules.specs.Trees.{Tree, Guards, no_variables}
use Rattle.rules.specs.Cells.{Cells, initial}
use Rattle.rules.specs.Rules.{Step}

-- what each guard answers to an event that comes after the events `before`
abbrev pub answers_after : Meaning → List Event → Event → Guards
answers_after m before e guard v = m before guard e v

-- A chain over a list of events, from the cells `start` to its end, where m is the host's meaning at the start: one successor for each event in
-- order, and the guards of each event are answered by m for the list of the events before it.
pub data Chain (t : Tree) (m : Meaning) (start : Cells) : List Event → Cells → Type 0 where
  -- over no event it ends where it starts
  begun : {events : List Event} {end : Cells} → events ≡ [] → end ≡ start → Chain t m start events end
  -- a chain over `before` goes on with the event e to each successor of its end
  goes_on : {events : List Event} {end : Cells} (before : List Event) (e : Event) (r : Cells) → events ≡ before ++ e ∷ []
      → Chain t m start before r → Step t (answers_after m before e) e no_variables r end → Chain t m start events end

-- r is an end: a chain over the events leads to it from the initial state
abbrev pub IsEnd : Tree → Meaning → List Event → Cells → Type 0
IsEnd t m events r = Chain t m (initial t) events r

-- r' is an end of a chain that goes on with the event e
abbrev pub IsNextEnd : Tree → Meaning → List Event → Event → Cells → Type 0
IsNextEnd t m events e r' = (r : Cells) × IsEnd t m events r × Step t (answers_after m events e) e no_variables r r'

-- some chain over the events goes on with the event e
abbrev pub GoesOn : Tree → Meaning → List Event → Event → Type 0
GoesOn t m events e = (r' : Cells) × IsNextEnd t m events e r'
