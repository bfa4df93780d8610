-- How a session stands, and how it goes on.
use Rattle.std.specs.Prelude.{◌≡◌, List, [], Option, Some, None, string_bytes}
use Rattle.procedure.specs.Drawings.{Drawing}
use Rattle.procedure.specs.Reading.{reading, left_by}
use Rattle.roster.specs.Runs.{ranges_values}
use Rattle.script.specs.Hosts.{host_meaning, kind_of}
use Rattle.script.specs.declared.line.Line.{Line}
use Rattle.script.specs.declared.wrong.Wrong.{Wrong}
use Rattle.logger.specs.Scripts.{Choice, choice_then}
use Rattle.logger.specs.Playing.{Standing, after_lines}
use Rattle.logger.specs.Stretches.{standing, waiting}
use Rattle.logger.specs.declared.session.Session.{Session}

-- what its file draws
abbrev pub drawn_in : Session → Drawing
drawn_in s = left_by (reading s.file.now)

-- how it stands before the calls that wait
abbrev pub settled : Session → Standing
settled s = standing s.run (host_meaning s.host) (ranges_values s.ranges.entries) (string_bytes s.said)

-- how it stands once they are made
abbrev pub so_far : Session → Standing
so_far s = after_lines (drawn_in s) (settled s) (waiting s.stretch)

-- what it knows of the lines that were read
abbrev pub choice_of : Session → Choice
choice_of s = record { kind = kind_of s.host; begun = s.begun }

-- it went on by the calls of some lines, on the same file
pub record Comes (before : Session) (lines : List Line) (after : Session) : Type 0 where
  pub stands : so_far after ≡ after_lines (drawn_in before) (so_far before) lines
  pub file : after.file.now ≡ before.file.now

-- and it knows of these lines
pub record Goes (before : Session) (lines : List Line) (after : Session) : Type 0 where
  pub stands : so_far after ≡ after_lines (drawn_in before) (so_far before) lines
  pub file : after.file.now ≡ before.file.now
  pub knows : choice_of after ≡ choice_then (choice_of before) lines

-- a line that is wrong changed nothing of how it stands; any other was made
abbrev pub Came : Session → Option Wrong → List Line → Session → Type 0
Came before (Some wrong) lines after = Comes before [] after
Came before None lines after = Goes before lines after
