-- Calls that wait to be made together: the lines that they were read from.
use Rattle.std.specs.Prelude.{ℕ, List, [], ◌∷◌, ◌++◌, map, Option, Some, None}
use Rattle.host.specs.Meanings.{Meaning}
use Rattle.law.specs.declared.call.Call.{Call}
use Rattle.law.specs.declared.call.Call.TheVariants as call
use Rattle.run.specs.Runs.{tree_in, ceiling_in, states}
use Rattle.run.specs.declared.run.Run.{Run}
use Rattle.script.specs.declared.line.Line.{Line}
use Rattle.script.specs.declared.line.Line.TheVariants.{Open, Offer, Menu}
use Rattle.logger.specs.Playing.{Standing, after_call}
use Rattle.logger.specs.declared.stretch.Stretch.{Stretch}

-- the line of an offer or a menu
abbrev pub line_of_call : Call → Line
line_of_call (call.Offer event) = Offer event
line_of_call (call.Menu places) = Menu places

-- that of an opening, if there is one
abbrev pub opening_lines : Option ℕ → List Line
opening_lines None = []
opening_lines (Some ceiling) = Open ceiling ∷ []

-- the lines whose calls wait
abbrev pub waiting : Stretch → List Line
waiting stretch = opening_lines stretch.opening ++ map line_of_call stretch.calls.items

-- after offers and menus, one after the other
abbrev pub after_calls : Standing → List Call → Standing
after_calls s [] = s
after_calls s (c ∷ cs) = after_calls (after_call s c) cs

-- how a run stands with its host, where a roster tells some values and something was said
abbrev pub standing : Run → Meaning → (ℕ → Option (List ℕ)) → List ℕ → Standing
standing run now told said = record { tree = tree_in run; ceiling = ceiling_in run; held = states run; now = now; told = told; said = said }
