-- A text, which is a list of numbers, and the places that it is said into.
use Rattle.std.specs.Prelude.{ℕ, ◌+◌, List, [], ◌∷◌, ◌++◌, length, take, drop, cond, Ok, Err, Result, nat_lt, slice_set}
use Rattle.fault.specs.Faults.{number_of, layer_of, layer_number_of}
use Rattle.fault.specs.declared.fault.Fault.{Fault}
use Rattle.event.specs.declared.event.Event.{Event}

-- a text over the first places, as much of it as there is room for; later places stay
abbrev pub text_over : List ℕ → List ℕ → List ℕ
text_over text places = take (length places) text ++ drop (length text) places

-- the numbers of an answer: 0 and the count, or the three of a refusal
abbrev pub answer_numbers : Result ℕ Fault → List ℕ
answer_numbers (Ok n) = 0 ∷ n ∷ []
answer_numbers (Err f) = number_of f.question ∷ layer_number_of (layer_of f.question) ∷ f.place ∷ []

-- the numbers of an event
abbrev pub event_numbers : Event → List ℕ
event_numbers e = e.label ∷ e.count ∷ e.first ∷ e.second ∷ []

-- those of some events, one event after the other
abbrev pub events_numbers : List Event → List ℕ
events_numbers [] = []
events_numbers (e ∷ es) = event_numbers e ++ events_numbers es

-- places, the first of which are written, and how many these are
pub record Page : Type 0 where
  pub places : List ℕ
  pub written : ℕ

-- these places, of which so many are written
abbrev pub page : List ℕ → ℕ → Page
page places written = record { places = places; written = written }

-- a page once one number more is said: it is in the next place, if there is one
abbrev pub one_said : ℕ → Page → Page
one_said n p = cond (nat_lt p.written (length p.places)) (page (slice_set p.places p.written n) (p.written + 1)) p

-- a page once the numbers of a text are said, one after the other
abbrev pub said : List ℕ → Page → Page
said [] p = p
said (n ∷ text) p = said text (one_said n p)
