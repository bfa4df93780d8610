-- The calls of a script, one after the other on one run with its host, and what is said of each.
use Rattle.std.specs.Prelude.{ℕ, false, cond, List, [], ◌∷◌, ◌++◌, length, Option, Some, None, Ok, Err, Result, codes, ◌==◌}
use Rattle.std.specs.List.{flat_map, range_with_len}
use Rattle.fault.specs.Asking.{refusal, answer_or}
use Rattle.fault.specs.declared.fault.Fault.{Fault}
use Rattle.procedure.specs.Drawings.{Drawing}
use Rattle.procedure.specs.Reading.{reading}
use Rattle.roster.specs.Runs.{range_asks}
use Rattle.host.specs.Meanings.{Meaning}
use Rattle.host.specs.Limiting.{limit_asks, limit_numbered}
use Rattle.host.specs.Tallying.{tally_asks}
use Rattle.rules.specs.Trees.{Tree, elementary}
use Rattle.rules.specs.Cells.{Cells, initial}
use Rattle.rules.specs.Ends.{some_finished}
use Rattle.law.specs.Calls.{Outcome, outcome_of, states_after, meaning_then}
use Rattle.law.specs.declared.call.Call.{Call}
use Rattle.law.specs.declared.call.Call.TheVariants as call
use Rattle.opened.specs.Opening.{open_answer}
use Rattle.run.specs.Replays.{told_tree}
use Rattle.text.specs.Texts.{◌⌢◌, accepted_text}
use Rattle.text.specs.Reports.{report_text}
use Rattle.script.specs.Texts.{setting_line, held_line, rows_line, row_line}
use Rattle.script.specs.Hosts.{with_limit, with_tally}
use Rattle.script.specs.declared.line.Line.{Line}
use Rattle.script.specs.declared.line.Line.TheVariants.{Host, Range, Limit, Tally, Open, Offer, Menu, Rows}
use Rattle.script.specs.declared.error_line.ErrorLine.{ErrorLine}
use Rattle.logger.specs.Logs.{outcome_line}
use Rattle.logger.specs.Scripts.{lines_in, first_choice, calls_in, wrong_in}

-- What stands between two calls: the tree of the root of what was opened, the ceiling, the held states, what the host means, the values of each
-- type, and what was said so far.
pub record Standing : Type 0 where
  pub tree : Tree
  pub ceiling : ℕ
  pub held : List Cells
  pub now : Meaning
  pub told : ℕ → Option (List ℕ)
  pub said : List ℕ

-- a host without an entry says no to every guard
abbrev pub says_no : Meaning
says_no w guard e v = false

-- no type has values yet
abbrev pub none_told : ℕ → Option (List ℕ)
none_told ty = None

-- before the first call: nothing is opened, and no entry and no type is set
abbrev pub unopened : List ℕ → Standing
unopened said = record { tree = elementary; ceiling = 0; held = []; now = says_no; told = none_told; said = said }

-- a text is said
abbrev pub saying : List ℕ → Standing → Standing
saying text s = record { tree = s.tree; ceiling = s.ceiling; held = s.held; now = s.now; told = s.told; said = s.said ++ text }

-- the host means something else
abbrev pub meaning : Meaning → Standing → Standing
meaning now s = record { tree = s.tree; ceiling = s.ceiling; held = s.held; now = now; told = s.told; said = s.said }

-- types have other values
abbrev pub telling : (ℕ → Option (List ℕ)) → Standing → Standing
telling told s = record { tree = s.tree; ceiling = s.ceiling; held = s.held; now = s.now; told = told; said = s.said }

-- one type has other values
abbrev pub with_values : ℕ → List ℕ → (ℕ → Option (List ℕ)) → ℕ → Option (List ℕ)
with_values ty values told other = cond (other == ty) (Some values) (told other)

-- a setting that is refused changes nothing
abbrev pub unless_refused : {X : Type 0} → Option Fault → X → X → X
unless_refused None new old = new
unless_refused (Some f) new old = old

-- after an offer or a menu that came to something: the law says it
abbrev pub after_outcome : Standing → Outcome → Standing
after_outcome s o =
    record { tree = s.tree; ceiling = s.ceiling; held = states_after s.tree s.held s.now o; now = meaning_then s.now o; told = s.told; said = s.said ++ outcome_line o }

-- after an offer or a menu
abbrev pub after_call : Standing → Call → Standing
after_call s c = after_outcome s (outcome_of s.tree s.ceiling s.held s.now c)

-- after an opening's answer, where the procedure draws d: the initial state of the root's tree, under the same host; a refusal changes nothing
abbrev pub after_open : Drawing → ℕ → Standing → Result ℕ Fault → Standing
after_open d ceiling s (Ok n) =
    record { tree = told_tree s.told d; ceiling = ceiling; held = initial (told_tree s.told d) ∷ []; now = s.now; told = s.told; said = s.said }
after_open d ceiling s (Err f) = s

-- what is said of the held states: how many, whether one is finished, and the cells of each
abbrev pub rows_told : Tree → List Cells → List ℕ
rows_told t held = rows_line (length held) (some_finished t held) ⌢ codes "\n" ⌢ flat_map (λ cells. row_line cells ⌢ codes "\n") held

-- After the call of a line, where the procedure draws d. A chosen host has no entries yet.
abbrev pub after_line : Drawing → Standing → Line → Standing
after_line d s (Host kind) = meaning says_no s
after_line d s (Range ty first count) =
    let answer = refusal (range_asks ty first count) in
    saying (setting_line (Range ty first count) (answer_or answer (tt {0})) ⌢ codes "\n") (telling (unless_refused answer (with_values ty (range_with_len first count) s.told) s.told) s)
after_line d s (Limit guard operand comparison constant) =
    let answer = refusal (limit_asks guard operand comparison constant) in
    saying (setting_line (Limit guard operand comparison constant) (answer_or answer (tt {0})) ⌢ codes "\n")
    (meaning (unless_refused answer (with_limit guard (limit_numbered operand comparison constant) s.now) s.now) s)
after_line d s (Tally guard label bound) =
    let answer = refusal (tally_asks guard label bound) in
    saying (setting_line (Tally guard label bound) (answer_or answer (tt {0})) ⌢ codes "\n") (meaning (unless_refused answer (with_tally guard label bound s.now) s.now) s)
after_line d s (Open ceiling) =
    let answer = open_answer d s.told ceiling in
    saying (held_line (Open ceiling) answer ⌢ codes "\n") (after_open d ceiling s answer)
after_line d s (Offer event) = after_call s (call.Offer event)
after_line d s (Menu places) = after_call s (call.Menu places)
after_line d s Rows = saying (rows_told s.tree s.held) s

-- after calls, one after the other
abbrev pub after_lines : Drawing → Standing → List Line → Standing
after_lines d s [] = s
after_lines d s (line ∷ lines) = after_lines d (after_line d s line) lines

-- what is told of a script: what was said, and the line that is wrong, if one is
pub record Telling : Type 0 where
  pub said : List ℕ
  pub wrong : Option ErrorLine

-- what is said of a sound file before the first line
abbrev pub accepted_line : Drawing → List ℕ
accepted_line d = accepted_text (length d.nodes) (length d.arrows) ⌢ codes "\n"

-- what is told of lines on a sound file
abbrev pub lines_told : Drawing → List (List ℕ) → Telling
lines_told d lines = record { said = (after_lines d (unopened (accepted_line d)) (calls_in first_choice lines)).said; wrong = wrong_in first_choice 1 lines }

-- what is told of a script on a file that was read; of a refused file why it is refused
abbrev pub script_told_by : Result Drawing Fault → List ℕ → Result Telling (List ℕ)
script_told_by (Ok d) script = Ok (lines_told d (lines_in script))
script_told_by (Err f) script = Err (report_text (Err f))

-- what is told of a script on a file
abbrev pub script_told : List ℕ → List ℕ → Result Telling (List ℕ)
script_told file script = script_told_by (reading file) script
