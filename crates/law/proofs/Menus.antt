-- The computed menu holds exactly the events in form that move some held state.
use Rattle.std.proofs.Common.{◌≡◌, refl, sym, ap, true, is_none, true≢false, List, [], Option, Some, None}
use Rattle.std.proofs.lemmas.Bool.{and_parts, and_from}
use mathlib.Core.List.{Memᴰ}
use Rattle.fault.specs.Asking.{refusal}
use Rattle.fault.specs.declared.fault.Fault.{Fault}
use Rattle.ordered.specs.Order.{Rising}
use Rattle.ordered.proofs.Alone.{one-rising}
use Rattle.event.specs.Forms.{InForm, form_asks, event_rank}
use Rattle.event.specs.Laws.{event_order}
use Rattle.event.specs.declared.event.Event.{Event}
use Rattle.host.specs.Meanings.{Meaning}
use Rattle.rules.specs.Trees.{Tree, no_variables}
use Rattle.rules.specs.Cells.{Cells}
use Rattle.rules.specs.Rules.{Step}
use Rattle.rules.specs.InRange.{Sound}
use Rattle.rules.specs.Chains.{answers_after}
use Rattle.rules.specs.Candidates.{candidates}
use Rattle.rules.proofs.Ends.{in-arranged, out-arranged, rising-arranged}
use Rattle.rules.proofs.Candidates.{step-carried, carried-listed, in-filter, out-filter, some-move, moved-some}
use Rattle.law.specs.Menus.{is_offered, menu_events}
use Rattle.law.proofs.Form.{form-none, none-form}

none-of : (o : Option Fault) → is_none o ≡ true → o ≡ None
none-of None h = refl
none-of (Some f) h = absurd (true≢false (sym h))

module _ (t : Tree) (held : List Cells) (now : Meaning) where
  pub in-menu : (e : Event) (r r' : Cells) → Sound t → InForm e → Memᴰ r held → Step t (answers_after now [] e) e no_variables r r' → Memᴰ e (menu_events t held now)
  in-menu e r r' s f m h =
      in-arranged event_rank event_order e _
      (in-filter (λ d. is_offered t held now d) e (candidates t no_variables)
      (and_from _ _ (ap is_none (form-none e f)) (some-move t (answers_after now [] e) e held r r' m h))
      (carried-listed t e no_variables s f (step-carried t (answers_after now [] e) e no_variables r r' h)))

  pub out-menu : (e : Event) → Memᴰ e (menu_events t held now) → InForm e × ((r : Cells) × Memᴰ r held × ((r' : Cells) × Step t (answers_after now [] e) e no_variables r r'))
  out-menu e i =
      let h = and_parts _ _ (out-filter (λ d. is_offered t held now d) e (candidates t no_variables) (out-arranged event_rank event_order e _ i)) in
      (none-form e (none-of (refusal (form_asks e)) h.0), moved-some t (answers_after now [] e) e held h.1)

  pub menu-rises : Rising event_rank (menu_events t held now)
  menu-rises = rising-arranged event_rank event_order _

  -- a rising list of the same events is the menu
  pub menu-alone : (l : List Event) → Rising event_rank l → ((e : Event) → Memᴰ e l → Memᴰ e (menu_events t held now)) → ((e : Event) → Memᴰ e (menu_events t held now) → Memᴰ e l) → l ≡ menu_events t held now
  menu-alone l r f g = one-rising event_rank event_order l (menu_events t held now) r menu-rises f g
