-- The calls of another program, one after the other on one run with its host, and what is said of each.
use Rattle.std.specs.Prelude.{ℕ, min, Bool, cond, List, [], ◌∷◌, ◌++◌, length, take, Option, Ok, Err, Result, ◌==◌, slice_index}
use Rattle.fault.specs.declared.fault.Fault.{Fault}
use Rattle.procedure.specs.Drawings.{Drawing}
use Rattle.procedure.specs.Reading.{reading, answer_of, left_by}
use Rattle.event.specs.declared.event.Event.{Event}
use Rattle.host.specs.Meanings.{Meaning}
use Rattle.rules.specs.Trees.{Tree, elementary}
use Rattle.rules.specs.Cells.{Cells, width, initial}
use Rattle.rules.specs.Ends.{some_finished}
use Rattle.law.specs.Calls.{offered, states_after, meaning_then}
use Rattle.law.specs.Offers.{offer_answer}
use Rattle.law.specs.Menus.{menu_events, menu_answer}
use Rattle.opened.specs.Opening.{told_values, root_tree, open_answer}
use Rattle.run.specs.Runs.{tree_in, ceiling_in, states, listed_by}
use Rattle.run.specs.declared.run.Run.{Run}
use Rattle.boundary.specs.Texts.{answer_numbers, events_numbers}
use Rattle.boundary.specs.Settings.{field, none_set, ranges_numbers, ranges_told, settings_numbers, host_meaning}
use Rattle.boundary.specs.declared.asked.Asked.{Asked}
use Rattle.boundary.specs.declared.asked.Asked.TheVariants.{Offer, Menu, Open, Tell}

-- the call of five numbers: its kind, and four others
abbrev pub asked_of : ℕ → ℕ → ℕ → ℕ → ℕ → Asked
asked_of kind a b c d =
    cond (kind == 0) (Offer (record { label = field a; count = field b; first = field c; second = field d }))
    (cond (kind == 1) (Menu a)
    (cond (kind == 2) (Open a)
    Tell))

-- the same of numbers in a list
abbrev pub asked_in : List ℕ → Asked
asked_in ns = asked_of (slice_index ns 0) (slice_index ns 1) (slice_index ns 2) (slice_index ns 3) (slice_index ns 4)

-- what stands between two calls: the tree of the root of what was opened, the ceiling, the held states, and what the host means
pub record Standing : Type 0 where
  pub tree : Tree
  pub ceiling : ℕ
  pub held : List Cells
  pub now : Meaning

-- a run that was never opened, with its host
abbrev pub unopened : Meaning → Standing
unopened now = record { tree = elementary; ceiling = 0; held = []; now = now }

-- any run with its host
abbrev pub standing : Run → Meaning → Standing
standing run now = record { tree = tree_in run; ceiling = ceiling_in run; held = states run; now = now }

-- 1 for yes, 0 for no
abbrev pub yes_number : Bool → ℕ
yes_number b = cond b 1 0

-- the cells of each state, one state after the other
abbrev pub cells_numbers : List Cells → List ℕ
cells_numbers [] = []
cells_numbers (r ∷ rs) = r ++ cells_numbers rs

-- what is told of the held states: how many, how many cells the root takes, whether some state is finished, and all cells
abbrev pub states_numbers : Tree → List Cells → List ℕ
states_numbers t held = length held ∷ width t ∷ yes_number (some_finished t held) ∷ cells_numbers held

-- the answer of a menu into some places, and the events in these: in as many of the first as it counts, or in all where it is refused
abbrev pub listed_numbers : Result ℕ Fault → List Event → List ℕ
listed_numbers answer places = answer_numbers answer ++ events_numbers (take (listed_by (length places) answer) places)

-- a menu into so many places: its answer, and the events that it lists
abbrev pub menu_numbers : ℕ → List Event → List ℕ
menu_numbers places menu = answer_numbers (menu_answer places menu) ++ events_numbers (take places menu)

-- what is said of a call, where a procedure draws d and a roster tells the values; places above 65,536 are taken for that
abbrev pub call_numbers : Drawing → (ℕ → Option (List ℕ)) → Standing → Asked → List ℕ
call_numbers d told s (Offer e) = answer_numbers (offer_answer s.tree s.ceiling s.held s.now e)
call_numbers d told s (Menu n) = menu_numbers (min n 65536) (menu_events s.tree s.held s.now)
call_numbers d told s (Open ceiling) = answer_numbers (open_answer d told ceiling)
call_numbers d told s Tell = states_numbers s.tree s.held

-- what stands after an offer's answer: the states that are held then, and what the host means then (`states_after`, `meaning_then`)
abbrev pub after_offer : Standing → Event → Result ℕ Fault → Standing
after_offer s e r = record { tree = s.tree; ceiling = s.ceiling; held = states_after s.tree s.held s.now (offered e r); now = meaning_then s.now (offered e r) }

-- what stands after an opening's answer: the initial state of the root's tree, under the same host; a refusal changes nothing
abbrev pub after_open : Drawing → (ℕ → Option (List ℕ)) → Standing → ℕ → Result ℕ Fault → Standing
after_open d told s ceiling (Ok n) = record { tree = root_tree (told_values told) d; ceiling = ceiling; held = initial (root_tree (told_values told) d) ∷ []; now = s.now }
after_open d told s ceiling (Err f) = s

-- what stands after a call
abbrev pub after_call : Drawing → (ℕ → Option (List ℕ)) → Standing → Asked → Standing
after_call d told s (Offer e) = after_offer s e (offer_answer s.tree s.ceiling s.held s.now e)
after_call d told s (Menu n) = s
after_call d told s (Open ceiling) = after_open d told s ceiling (open_answer d told ceiling)
after_call d told s Tell = s

-- what is said of calls, by five numbers each; numbers left over behind the last are not looked at
abbrev pub calls_numbers : Drawing → (ℕ → Option (List ℕ)) → Standing → List ℕ → List ℕ
calls_numbers d told s (kind ∷ a ∷ b ∷ c ∷ e ∷ more) =
    call_numbers d told s (asked_of kind a b c e) ++ calls_numbers d told (after_call d told s (asked_of kind a b c e)) more
calls_numbers d told s ns = []

-- what is said of a file: the reading's answer
abbrev pub read_text : List ℕ → List ℕ
read_text file = answer_numbers (answer_of (reading file))

-- What is said of all: of the reading, then of each range, then of each setting of the host, and then of each call on a run that was never opened.
-- A refused file leaves an empty procedure for what follows.
abbrev pub play_text : ℕ → List ℕ → List ℕ → List ℕ → List ℕ → List ℕ
play_text host file ranges settings calls =
    read_text file
    ++ (ranges_numbers ranges
    ++ (settings_numbers host settings
    ++ calls_numbers (left_by (reading file)) (ranges_told none_set ranges) (unopened (host_meaning host settings)) calls))
