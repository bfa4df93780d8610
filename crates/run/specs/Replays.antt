-- Lists of calls on a run, the room that is lent for what they come to, and how much of it they use.
use Rattle.procedure.specs.Drawings.{Drawing}
use Rattle.procedure.specs.Reading.{reading}
use Rattle.opened.specs.Opening.{told_values, root_tree, open_answer}
use Rattle.std.specs.Prelude.{Option, ℕ, zero, suc, ◌-◌, cond, List, [], ◌∷◌, ◌++◌, length, take, drop, Result, Ok, Err, nat_le}
use Rattle.std.specs.Result.{IsOkAnd}
use Rattle.fault.specs.declared.fault.Fault.{Fault}
use Rattle.event.specs.declared.event.Event.{Event}
use Rattle.rules.specs.Trees.{Tree}
use Rattle.law.specs.Calls.{Outcome, offered, listed, call_of}
use Rattle.law.specs.declared.call.Call.{Call}
use Rattle.law.specs.declared.call.Call.TheVariants.{Offer, Menu}
use Rattle.run.specs.Runs.{listed_by}

-- how many places for events a call brings
abbrev pub places_of : Call → ℕ
places_of (Offer e) = 0
places_of (Menu n) = n

-- how many calls are made: the first, as long as there is room for one answer more, and for the places of its menu
abbrev pub calls_made : List Call → ℕ → ℕ → ℕ
calls_made [] answers places = 0
calls_made (c ∷ cs) zero places = 0
calls_made (c ∷ cs) (suc answers) places = cond (nat_le (places_of c) places) (suc (calls_made cs answers (places - places_of c))) 0

-- what an answer tells of a call, with the places that it brought
abbrev pub outcome_in : Call → Result ℕ Fault → List Event → Outcome
outcome_in (Offer e) r places = offered e r
outcome_in (Menu n) r places = listed n r (take (listed_by n r) places)

-- what a log of answers and listed events tells: the places of each menu come one after the other
abbrev pub outcomes_in : List Call → List (Result ℕ Fault) → List Event → List Outcome
outcomes_in [] rs es = []
outcomes_in (c ∷ cs) [] es = []
outcomes_in (c ∷ cs) (r ∷ rs) es = outcome_in c r (take (places_of c) es) ∷ outcomes_in cs rs (drop (places_of c) es)

-- the places of a call after it: a menu's events are in the first, and later places stay
abbrev pub places_after : Outcome → List Event → List Event
places_after (offered e r) places = places
places_after (listed n r es) places = es ++ drop (length es) places

-- the room for events after some calls: of each its own places, one call after the other, and what is left stays
abbrev pub events_after : List Outcome → List Event → List Event
events_after [] room = room
events_after (o ∷ os) room = places_after o (take (places_of (call_of o)) room) ++ events_after os (drop (places_of (call_of o)) room)

-- what an opening answers, and n, unless it is refused
abbrev pub and_then : Result ℕ Fault → ℕ → Result (ℕ × ℕ) Fault
and_then (Ok held) n = Ok (held, n)
and_then (Err f) n = Err f

-- what a run is answered that goes the whole way: the fault of the reading, or else that of the opening, or else what the opening answers
-- and how many calls were made
abbrev pub rehearsed : Result Drawing Fault → (ℕ → Option (List ℕ)) → ℕ → ℕ → Result (ℕ × ℕ) Fault
rehearsed (Err f) told ceiling n = Err f
rehearsed (Ok d) told ceiling n = and_then (open_answer d told ceiling) n

-- the same of the bytes of a file
abbrev pub rehearsal_answer : List ℕ → (ℕ → Option (List ℕ)) → ℕ → ℕ → Result (ℕ × ℕ) Fault
rehearsal_answer file told ceiling n = rehearsed (reading file) told ceiling n

-- how many calls were made; none where that is a refusal
abbrev pub made_by : Result (ℕ × ℕ) Fault → ℕ
made_by (Ok both) = both.1
made_by (Err f) = 0

-- what the log tells of the calls that were made
abbrev pub logged : List Call → Result (ℕ × ℕ) Fault → List (Result ℕ Fault) → List Event → List Outcome
logged cs r rs es = outcomes_in (take (made_by r) cs) rs es

-- a file draws something, and P holds of it
abbrev pub Draws : List ℕ → (Drawing → Type 0) → Type 0
Draws file P = IsOkAnd (reading file) P

-- the tree of the root, under the values that a roster tells
abbrev pub told_tree : (ℕ → Option (List ℕ)) → Drawing → Tree
told_tree told d = root_tree (told_values told) d
