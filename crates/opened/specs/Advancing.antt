-- What an event does to the states that are held.
use Rattle.std.specs.Prelude.{◌≡◌, ℕ, ◌<◌, List, [], length, map, Some, None, Result, MatchResult}
use Rattle.fault.specs.Asking.{refusal}
use Rattle.fault.specs.declared.fault.Fault.{Fault}
use Rattle.event.specs.declared.event.Event.{Event}
use Rattle.host.specs.Meanings.{Meaning}
use Rattle.rules.specs.Cells.{Cells, fit}
use Rattle.rules.specs.Chains.{answers_after}
use Rattle.diagram.specs.declared.diagram.Diagram.{Diagram}
use Rattle.answers.specs.Answering.{Agrees}
use Rattle.answers.specs.declared.answers.Answers.{Answers}
use Rattle.row.specs.declared.row.Row.{Row}
use Rattle.law.specs.Chained.{no_successor}
use Rattle.law.specs.Offers.{next_asks, next_states}
use Rattle.opened.specs.Opens.{tree_of_opened}
use Rattle.opened.specs.States.{states_in}
use Rattle.opened.specs.declared.opened.Opened.{Opened}

-- a table has what some host answers
abbrev pub Answered : Diagram → Answers → Type 0
Answered d a = (now : Meaning) × Agrees d a (answers_after now [] a.event)

-- the states that come next
abbrev pub next_of : Opened → Meaning → Event → List Cells
next_of o now e = next_states (tree_of_opened o) (states_in o.held) now e

-- The states of some rows are held, and the answer is how many they are; or there are none, question 16 is answered no, and nothing has changed.
abbrev pub Takes : List Row → Opened → Opened → Result ℕ Fault → Type 0
Takes next before after r = MatchResult r
    (λ n. (n ≡ length next) × (0 < n) × (states_in after.held ≡ map (λ row. fit before.held.width row.cells) next))
    (λ f. (next ≡ []) × (f ≡ no_successor (length (states_in before.held))) × (after ≡ before))

-- The questions 16 and 17 are answered yes, the states that come next are held, and the answer is how many they are; or the first no is told,
-- and nothing has changed.
abbrev pub Advances : Meaning → Event → Opened → Opened → Result ℕ Fault → Type 0
Advances now e before after r = MatchResult r
    (λ n. (refusal (next_asks before.ceiling (states_in before.held) (next_of before now e)) ≡ None)
    × (states_in after.held ≡ next_of before now e)
    × (n ≡ length (next_of before now e)))
    (λ f. (refusal (next_asks before.ceiling (states_in before.held) (next_of before now e)) ≡ Some f) × (after ≡ before))
