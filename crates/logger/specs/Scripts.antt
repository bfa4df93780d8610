-- The lines of a script: the calls that they make, up to the first line that is wrong.
use Rattle.std.specs.Prelude.{ℕ, ◌+◌, Bool, true, false, cond, List, [], ◌∷◌, ◌++◌, Option, Some, None, Ok, Err, Result, ◌==◌}
use Rattle.std.specs.List.{slice_split}
use Rattle.script.specs.Lines.{line_of}
use Rattle.script.specs.declared.host_kind.HostKind.{HostKind}
use Rattle.script.specs.declared.host_kind.HostKind.TheVariants.{Limits, Tallies}
use Rattle.script.specs.declared.line.Line.{Line}
use Rattle.script.specs.declared.line.Line.TheVariants.{Host, Range, Limit, Tally, Open, Offer, Menu, Rows}
use Rattle.script.specs.declared.wrong.Wrong.{Wrong}
use Rattle.script.specs.declared.wrong.Wrong.TheVariants.{LateHost, NoLimits, NoTallies}
use Rattle.script.specs.declared.error_line.ErrorLine.{ErrorLine}

-- the lines of a script stand between the bytes 10
abbrev pub lines_in : List ℕ → List (List ℕ)
lines_in script = slice_split (λ byte. byte == 10) script

-- what earlier lines say of a later one: the kind of the host, and whether a call other than the choice of a host was read
pub record Choice : Type 0 where
  pub kind : HostKind
  pub begun : Bool

-- before the first line: a host by limits, and no call yet
abbrev pub first_choice : Choice
first_choice = record { kind = Limits; begun = false }

-- after a call
abbrev pub choice_after : Choice → Line → Choice
choice_after c (Host kind) = record { kind = kind; begun = c.begun }
choice_after c (Range ty first count) = record { kind = c.kind; begun = true }
choice_after c (Limit guard operand comparison constant) = record { kind = c.kind; begun = true }
choice_after c (Tally guard label bound) = record { kind = c.kind; begun = true }
choice_after c (Open ceiling) = record { kind = c.kind; begun = true }
choice_after c (Offer event) = record { kind = c.kind; begun = true }
choice_after c (Menu places) = record { kind = c.kind; begun = true }
choice_after c Rows = record { kind = c.kind; begun = true }

-- after calls, one after the other
abbrev pub choice_then : Choice → List Line → Choice
choice_then c [] = c
choice_then c (call ∷ calls) = choice_then (choice_after c call) calls

-- a limit is wrong where the host is one by tallies
abbrev pub wrong_limit : HostKind → Option Wrong
wrong_limit Limits = None
wrong_limit Tallies = Some NoLimits

-- a tally is wrong where it is one by limits
abbrev pub wrong_tally : HostKind → Option Wrong
wrong_tally Limits = Some NoTallies
wrong_tally Tallies = None

-- what is wrong with a call behind earlier ones: a host is chosen late, or the host that was chosen has nothing like it
abbrev pub wrong_call : Choice → Line → Option Wrong
wrong_call c (Host kind) = cond c.begun (Some LateHost) None
wrong_call c (Range ty first count) = None
wrong_call c (Limit guard operand comparison constant) = wrong_limit c.kind
wrong_call c (Tally guard label bound) = wrong_tally c.kind
wrong_call c (Open ceiling) = None
wrong_call c (Offer event) = None
wrong_call c (Menu places) = None
wrong_call c Rows = None

-- what is wrong with what a line is read as
abbrev pub wrong_read : Choice → Result (Option Line) Wrong → Option Wrong
wrong_read c (Err wrong) = Some wrong
wrong_read c (Ok None) = None
wrong_read c (Ok (Some call)) = wrong_call c call

-- the calls that it makes: one, or none
abbrev pub calls_read : Result (Option Line) Wrong → List Line
calls_read (Err wrong) = []
calls_read (Ok None) = []
calls_read (Ok (Some call)) = call ∷ []

-- what is wrong with a line
abbrev pub wrong_line : Choice → List ℕ → Option Wrong
wrong_line c line = wrong_read c (line_of line)

-- the calls of a line
abbrev pub calls_of : List ℕ → List Line
calls_of line = calls_read (line_of line)

-- calls are made only if the line is not wrong
abbrev pub unless_wrong : Option Wrong → List Line → List Line
unless_wrong None calls = calls
unless_wrong (Some wrong) calls = []

-- the calls of lines, up to the first line that is wrong
abbrev pub calls_in : Choice → List (List ℕ) → List Line
calls_in c [] = []
calls_in c (line ∷ lines) = unless_wrong (wrong_line c line) (calls_of line ++ calls_in (choice_then c (calls_of line)) lines)

-- a line that is wrong, with its number, or else a later one
abbrev pub or_later : ℕ → Option Wrong → Option ErrorLine → Option ErrorLine
or_later number None later = later
or_later number (Some wrong) later = Some (record { number = number; wrong = wrong })

-- the first line that is wrong, if one is; the lines are numbered, and the first has the number `number`
abbrev pub wrong_in : Choice → ℕ → List (List ℕ) → Option ErrorLine
wrong_in c number [] = None
wrong_in c number (line ∷ lines) = or_later number (wrong_line c line) (wrong_in (choice_then c (calls_of line)) (number + 1) lines)
