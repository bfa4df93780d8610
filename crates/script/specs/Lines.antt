-- What a line of a script calls.
use Rattle.std.specs.Prelude.{ℕ, ◌-◌, cond, List, [], ◌∷◌, length, Option, Some, None, Result, Ok, Err, codes, nat_lt, ◌==◌, slice_index, option_map}
use Rattle.std.specs.Option.{ok_or, option_map_or}
use Rattle.std.specs.Result.{result_map_both}
use Rattle.std.specs.Str.{bytes_eq}
use Rattle.event.specs.declared.event.Event.{Event}
use Rattle.script.specs.declared.line.Line.{Line}
use Rattle.script.specs.declared.line.Line.TheVariants as line
use Rattle.script.specs.declared.name.Name.{Name}
use Rattle.script.specs.declared.name.Name.TheVariants.{Range, Limit, Tally, Open, Offer, Raw, Menu, Rows}
use Rattle.script.specs.declared.wrong.Wrong.{Wrong}
use Rattle.script.specs.declared.wrong.Wrong.TheVariants.{NoSuchCall, NoSuchHost, TooFew, TooMany, NoNumber}
use Rattle.script.specs.Words.{words}
use Rattle.script.specs.Numbers.{numbers_of}
use Rattle.script.specs.Names.{host_kind_of, name_of, fewest_of, most_of}

-- the event of a label and the arguments behind it, where a missing one is 0
abbrev pub event_offered : List ℕ → Event
event_offered ns = record { label = slice_index ns 0; count = length ns - 1; first = slice_index ns 1; second = slice_index ns 2 }

-- the call of a name and its numbers
abbrev pub call_by : Name → List ℕ → Line
call_by Range ns = line.Range (slice_index ns 0) (slice_index ns 1) (slice_index ns 2)
call_by Limit ns = line.Limit (slice_index ns 0) (slice_index ns 1) (slice_index ns 2) (slice_index ns 3)
call_by Tally ns = line.Tally (slice_index ns 0) (slice_index ns 1) (slice_index ns 2)
call_by Open ns = line.Open (slice_index ns 0)
call_by Offer ns = line.Offer (event_offered ns)
call_by Raw ns = line.Offer (record { label = slice_index ns 0; count = slice_index ns 1; first = slice_index ns 2; second = slice_index ns 3 })
call_by Menu ns = line.Menu (cond (length ns == 0) 64 (slice_index ns 0))
call_by Rows ns = line.Rows

-- the call of a name and the words behind it: as many as it takes, and each a number
abbrev pub numbered_call : Name → List (List ℕ) → Result Line Wrong
numbered_call name args =
    cond (nat_lt (length args) (fewest_of name)) (Err (TooFew name))
    (cond (nat_lt (most_of name) (length args)) (Err (TooMany name))
    (ok_or (option_map (call_by name) (numbers_of args)) NoNumber))

-- the choice of a host by the words behind `host`: one, which is a host
abbrev pub host_call : List (List ℕ) → Result Line Wrong
host_call [] = Err NoSuchHost
host_call (word ∷ []) = ok_or (option_map line.Host (host_kind_of word)) NoSuchHost
host_call (word ∷ other ∷ others) = Err NoSuchHost

-- the call of a line by its first word and the others
abbrev pub call_of : List ℕ → List (List ℕ) → Result Line Wrong
call_of first others =
    cond (bytes_eq first (codes "host")) (host_call others)
    (option_map_or (λ name. numbered_call name others) (name_of first) (Err NoSuchCall))

-- a line of no words calls nothing
abbrev pub line_by : List (List ℕ) → Result (Option Line) Wrong
line_by [] = Ok None
line_by (first ∷ others) = result_map_both Some (λ e. e) (call_of first others)

-- what a line calls, if it calls anything
abbrev pub line_of : List ℕ → Result (Option Line) Wrong
line_of line = line_by (words line)
