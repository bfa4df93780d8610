-- The lines of what calls on a run came to.
use Rattle.std.specs.Prelude.{ℕ, List, codes}
use Rattle.std.specs.List.{flat_map}
use Rattle.law.specs.Calls.{Outcome, offered, listed}
use Rattle.text.specs.Texts.{◌⌢◌}
use Rattle.script.specs.Texts.{held_line, menu_line}
use Rattle.script.specs.declared.line.Line.TheVariants.{Offer}
use Rattle.logger.specs.declared.logged.Logged.{Logged}
use Rattle.logger.specs.declared.logged.Logged.TheVariants.{Offered, Listed}

-- what a call came to
abbrev pub logged : Logged → Outcome
logged (Offered event answer) = offered event answer
logged (Listed places answer events) = listed places answer events.now

-- its line, with the end of the line
abbrev pub outcome_line : Outcome → List ℕ
outcome_line (offered event answer) = held_line (Offer event) answer ⌢ codes "\n"
outcome_line (listed places answer events) = menu_line places answer events ⌢ codes "\n"

-- one after the other
abbrev pub log_text : List Outcome → List ℕ
log_text outcomes = flat_map outcome_line outcomes
