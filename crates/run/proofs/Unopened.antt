-- A run that was never opened.
use Rattle.std.proofs.Common.{◌≡◌, refl, ap, ◌∙◌, [], ◌++◌, length, Err, List, Option}
use Rattle.fault.specs.Asking.{refusal, answer_or}
use Rattle.fault.specs.declared.fault.Fault.{Fault}
use Rattle.fault.proofs.Refusals.{refusal-more}
use Rattle.event.specs.Forms.{InForm, form_asks}
use Rattle.event.specs.declared.event.Event.{Event}
use Rattle.host.specs.Meanings.{Meaning}
use Rattle.rules.specs.Trees.{elementary}
use Rattle.rules.specs.Cells.{Cells}
use Rattle.rules.specs.Moves.{over}
use Rattle.rules.specs.Ends.{arranged}
use Rattle.law.specs.Offers.{next_states, next_asks, offer_answer}
use Rattle.law.specs.Menus.{menu_events}
use Rattle.law.specs.Chained.{no_successor}
use Rattle.law.proofs.Form.{form-none}

-- nothing comes next
pub nothing-next : (now : Meaning) (e : Event) → next_states elementary [] now e ≡ []
unfolding arranged over
nothing-next now e = refl

-- an event in form is refused
pub never-taken : (now : Meaning) (e : Event) → InForm e → offer_answer elementary 0 [] now e ≡ Err (no_successor 0)
never-taken now e f =
    ap (λ (l : List Cells). answer_or (refusal (form_asks e ++ next_asks 0 [] l)) (length l)) (nothing-next now e)
    ∙ ap (λ (o : Option Fault). answer_or o 0) (refusal-more (form_asks e) (next_asks 0 [] []) (form-none e f))

-- and the menu is empty
pub nothing-listed : (now : Meaning) → menu_events elementary [] now ≡ []
unfolding arranged
nothing-listed now = refl
