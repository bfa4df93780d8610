-- What a menu lists and is answered, computed from the held states. Theorems tie it to the chains.
use Rattle.std.specs.Prelude.{ℕ, Bool, ◌&&◌, is_none, List, [], ◌∷◌, ◌++◌, length, take, drop, Result, nat_le}
use Rattle.std.specs.List.{filter}
use Rattle.fault.specs.Asking.{Asked, refusal, answer_or}
use Rattle.fault.specs.declared.fault.Fault.{Fault}
use Rattle.fault.specs.declared.fault.Question.TheVariants.{MenuWithinList}
use Rattle.event.specs.Forms.{form_asks, event_rank}
use Rattle.event.specs.declared.event.Event.{Event}
use Rattle.host.specs.Meanings.{Meaning}
use Rattle.rules.specs.Trees.{Tree, no_variables}
use Rattle.rules.specs.Cells.{Cells}
use Rattle.rules.specs.Chains.{answers_after}
use Rattle.rules.specs.Ends.{arranged}
use Rattle.rules.specs.Candidates.{candidates, some_moves}

-- whether an event is in form and moves some held state, where the host means `now`
abbrev pub is_offered : Tree → List Cells → Meaning → Event → Bool
is_offered t held now e = is_none (refusal (form_asks e)) && some_moves t (answers_after now [] e) e held

-- the menu: every event in form with a successor, in order, each once
abbrev pub menu_events : Tree → List Cells → Meaning → List Event
menu_events t held now = arranged event_rank (filter (λ e. is_offered t held now e) (candidates t no_variables))

-- question 18, at the number of the list's places
abbrev pub menu_asks : ℕ → List Event → List Asked
menu_asks places menu = record { question = MenuWithinList; place = places; yes = nat_le (length menu) places } ∷ []

-- what it is answered: the number of its events, or 18
abbrev pub menu_answer : ℕ → List Event → Result ℕ Fault
menu_answer places menu = answer_or (refusal (menu_asks places menu)) (length menu)

-- what it writes into a list: as many of its first events as there are places; later places stay
abbrev pub written_over : List Event → List Event → List Event
written_over menu list = take (length list) menu ++ drop (length menu) list
