-- The text of an event.
use Rattle.std.specs.Prelude.{ℕ, Bool, cond, List, Option, Some, None, codes, decimal, is_none}
use Rattle.fault.specs.Asking.{refusal}
use Rattle.event.specs.Forms.{form_asks, first_argument, second_argument}
use Rattle.event.specs.declared.event.Event.{Event}
use Rattle.notation.specs.declared.arrow.Argument.{Argument}
use Rattle.notation.specs.declared.arrow.Argument.TheVariants.{Absent, Constant}
use Rattle.text.specs.Texts.{◌⌢◌, label_text}

-- whether question 15 is answered yes for each field
abbrev pub is_in_form : Event → Bool
is_in_form e = is_none (refusal (form_asks e))

-- an argument as a label has it
abbrev pub argument_of : Option ℕ → Argument
argument_of None = Absent
argument_of (Some value) = Constant value

-- an event: `2`, `2(1)` or `2(1,7)`, and out of form `[LABEL COUNT FIRST SECOND]`
abbrev pub event_text : Event → List ℕ
event_text e =
    cond (is_in_form e)
    (label_text e.label (argument_of (first_argument e)) (argument_of (second_argument e)))
    (codes "[" ⌢ decimal e.label ⌢ codes " " ⌢ decimal e.count ⌢ codes " " ⌢ decimal e.first ⌢ codes " " ⌢ decimal e.second ⌢ codes "]")
