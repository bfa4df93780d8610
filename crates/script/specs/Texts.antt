-- The lines that are printed for the lines of a script, as bytes of ASCII.
use Rattle.std.specs.Prelude.{ℕ, Bool, true, false, cond, List, Result, Ok, Err, codes, decimal, ◌==◌}
use Rattle.std.specs.List.{flat_map}
use Rattle.fault.specs.declared.fault.Fault.{Fault}
use Rattle.event.specs.declared.event.Event.{Event}
use Rattle.text.specs.Texts.{◌⌢◌, refused_line}
use Rattle.script.specs.Names.{text_of_kind}
use Rattle.script.specs.Events.{event_text}
use Rattle.script.specs.declared.line.Line.{Line}
use Rattle.script.specs.declared.line.Line.TheVariants.{Host, Range, Limit, Tally, Open, Offer, Menu, Rows}

-- items, each behind a blank
abbrev pub spaced : {X : Type 0} → (X → List ℕ) → List X → List ℕ
spaced text xs = flat_map (λ x. codes " " ⌢ text x) xs

-- a call, which the text of its outcome begins with
abbrev pub call_text : Line → List ℕ
call_text (Host kind) = codes "host " ⌢ text_of_kind kind
call_text (Range ty first count) = codes "range " ⌢ decimal ty ⌢ codes " " ⌢ decimal first ⌢ codes " " ⌢ decimal count
call_text (Limit guard operand comparison constant) = codes "limit " ⌢ decimal guard ⌢ codes " " ⌢ decimal operand ⌢ codes " " ⌢ decimal comparison ⌢ codes " " ⌢ decimal constant
call_text (Tally guard label bound) = codes "tally " ⌢ decimal guard ⌢ codes " " ⌢ decimal label ⌢ codes " " ⌢ decimal bound
call_text (Open ceiling) = codes "open " ⌢ decimal ceiling
call_text (Offer event) = codes "offer " ⌢ event_text event
call_text (Menu places) = codes "menu " ⌢ decimal places
call_text Rows = codes "rows"

-- so many states
abbrev pub rows_text : ℕ → List ℕ
rows_text n = cond (n == 1) (codes "1 row") (decimal n ⌢ codes " rows")

-- so many events
abbrev pub events_text : ℕ → List ℕ
events_text n = cond (n == 1) (codes "1 event") (decimal n ⌢ codes " events")

-- what a call came to, where `text` tells what it answered
abbrev pub answer_text : {X : Type 0} → (X → List ℕ) → Result X Fault → List ℕ
answer_text text (Ok x) = text x
answer_text text (Err f) = refused_line f

-- a setting and its answer: `range 0 1 3: set`
abbrev pub setting_line : {X : Type 0} → Line → Result X Fault → List ℕ
setting_line call answer = call_text call ⌢ codes ": " ⌢ answer_text (λ _. codes "set") answer

-- an opening or an offer, and how many states are held: `offer 2(2): 1 row`
abbrev pub held_line : Line → Result ℕ Fault → List ℕ
held_line call answer = call_text call ⌢ codes ": " ⌢ answer_text rows_text answer

-- a menu, and the events that were listed: `menu 64: 2 events: 3(2) 4`
abbrev pub menu_line : ℕ → Result ℕ Fault → List Event → List ℕ
menu_line places answer listed = call_text (Menu places) ⌢ codes ": " ⌢ answer_text events_text answer ⌢ codes ":" ⌢ spaced event_text listed

-- yes or no
abbrev pub yes_or_no : Bool → List ℕ
yes_or_no true = codes "yes"
yes_or_no false = codes "no"

-- how many states are held, and whether one is finished: `rows: 1 row, finished: no`
abbrev pub rows_line : ℕ → Bool → List ℕ
rows_line count finished = call_text Rows ⌢ codes ": " ⌢ rows_text count ⌢ codes ", finished: " ⌢ yes_or_no finished

-- the cells of a state: a blank, and each cell behind a blank
abbrev pub row_line : List ℕ → List ℕ
row_line cells = codes " " ⌢ spaced decimal cells
