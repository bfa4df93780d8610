-- What an offer is answered, computed from the held states. Theorems tie it to the chains.
use Rattle.std.specs.Prelude.{ℕ, List, [], ◌∷◌, ◌++◌, length, Ok, Err, Result, nat_le}
use Rattle.fault.specs.Asking.{Asked, refusal, answer_or}
use Rattle.fault.specs.declared.fault.Fault.{Fault}
use Rattle.fault.specs.declared.fault.Question.TheVariants.{SuccessorExists, SuccessorsWithinCeiling}
use Rattle.event.specs.Forms.{form_asks}
use Rattle.event.specs.declared.event.Event.{Event}
use Rattle.host.specs.Meanings.{Meaning}
use Rattle.rules.specs.Trees.{Tree}
use Rattle.rules.specs.Cells.{Cells}
use Rattle.rules.specs.Chains.{answers_after}
use Rattle.rules.specs.Ends.{successors}
use Rattle.rules.specs.Candidates.{has_one}

-- all successors of all held states, in order, each once; the host means `now`
abbrev pub next_states : Tree → List Cells → Meaning → Event → List Cells
next_states t held now e = successors t (answers_after now [] e) e held

-- question 16, at the number of held states, and 17, at the ceiling, of the states that would come next
abbrev pub next_asks : ℕ → List Cells → List Cells → List Asked
next_asks ceiling held next =
    record { question = SuccessorExists; place = length held; yes = has_one next }
    ∷ record { question = SuccessorsWithinCeiling; place = ceiling; yes = nat_le (length next) ceiling } ∷ []

-- the questions of an offer: 15 of each field, then 16 and 17
abbrev pub offer_asks : Tree → ℕ → List Cells → Meaning → Event → List Asked
offer_asks t ceiling held now e = form_asks e ++ next_asks ceiling held (next_states t held now e)

-- what it is answered: the fault of the first no, or else the number of states that come next
abbrev pub offer_answer : Tree → ℕ → List Cells → Meaning → Event → Result ℕ Fault
offer_answer t ceiling held now e = answer_or (refusal (offer_asks t ceiling held now e)) (length (next_states t held now e))

-- the states that are held after an offer's answer: those that come next, or where it is a refusal the former ones
abbrev pub held_after : Tree → List Cells → Meaning → Event → Result ℕ Fault → List Cells
held_after t held now e (Ok n) = next_states t held now e
held_after t held now e (Err f) = held

-- the events that an offer's answer adds to those taken
abbrev pub taken_by : Event → Result ℕ Fault → List Event
taken_by e (Ok n) = e ∷ []
taken_by e (Err f) = []
