-- What the program tells of a file and a script, and the status that it ends with.
use Rattle.std.specs.Prelude.{ℕ, List, Option, Some, None, Ok, Err, Result, string_bytes}
use Rattle.std.specs.declared.string.String.{String}
use Rattle.script.specs.declared.error_line.ErrorLine.{ErrorLine}
use Rattle.logger.specs.Playing.{Telling}
use Rattle.logger.specs.declared.account.Account.{Account}

-- what was said and the line that is wrong, or why the file is refused
abbrev pub told_of : {Z : Type 0} → Result Account (String Z) → Result Telling (List ℕ)
told_of (Ok account) = Ok (record { said = string_bytes account.said; wrong = account.wrong })
told_of (Err text) = Err (string_bytes text)

-- the status behind a report: 0 of a sound file, 1 of one that is refused
abbrev pub report_status : {X E : Type 0} → Result X E → ℕ
report_status (Ok x) = 0
report_status (Err e) = 1

-- the status behind lines: 0, or 1 where one is wrong
abbrev pub lines_status : Option ErrorLine → ℕ
lines_status None = 0
lines_status (Some line) = 1

-- the status behind a script: 1 also where the file is refused
abbrev pub script_status : Result Telling (List ℕ) → ℕ
script_status (Ok telling) = lines_status telling.wrong
script_status (Err text) = 1
