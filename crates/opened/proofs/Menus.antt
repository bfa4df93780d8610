-- The events that arrows carry and that move a held state are those of the menu.
use Rattle.std.proofs.Common.{◌≡◌, refl, sym, ◌∙◌, ap, ap₂, min, subst, ℕ, ◌-◌, ◌≤◌, ◌&&◌, Bool, true, false, nat_lt, Ok, Err, Result, inr, List, [], ◌++◌, length, take, drop, Option, Some, None, leb-true, slice_index_or, ⊎_elim, arith}
use Rattle.std.proofs.lemmas.Bool.{and_parts, cases_lt, ltb-true, ltb-false}
use Rattle.std.proofs.lemmas.List.{take_all, take-append-drop, drop_all, length-take, length-take-le}
use Rattle.std.proofs.lemmas.Option.{none-some, slice_get_within, get_or_from_slice_get}
use Rattle.std.specs.List.{slice_get}
use mathlib.Core.List.{Memᴰ}
use mathlib.Core.List.Memᴰ
use Rattle.notation.specs.Parts.{blank_arrow}
use Rattle.notation.specs.declared.arrow.Arrow.{Arrow}
use Rattle.record.proofs.Below.{all-at}
use Rattle.procedure.specs.Procedures.{drawing}
use Rattle.procedure.specs.Drawings.{Drawing}
use Rattle.procedure.specs.Scopes.{arrow_placed}
use Rattle.procedure.specs.Sound.{sound, arrow_sound}
use Rattle.ordered.specs.Held.{held, room}
use Rattle.event.specs.Forms.{InForm, OrderedEvents}
use Rattle.event.specs.declared.event.Event.{Event}
use Rattle.host.specs.Meanings.{Meaning}
use Rattle.host.specs.declared.variables.Variables.{Variables}
use Rattle.rules.specs.Trees.{argument_of}
use Rattle.rules.specs.Candidates.{event_with}
use Rattle.rules.specs.Chains.{answers_after}
use Rattle.rules.specs.InRange.{Sound}
use Rattle.rules.proofs.Growing.{tree-sound}
use Rattle.diagram.specs.Valued.{values_of}
use Rattle.diagram.specs.Plans.{nodes_of, arrows_in}
use Rattle.diagram.specs.Scopes.{binders_at, variables_at}
use Rattle.diagram.specs.Carrying.{event_under, candidate_of, candidate_at}
use Rattle.diagram.specs.declared.diagram.Diagram.{Diagram}
use Rattle.diagram.proofs.Carried.{candidates-complete}
use Rattle.diagram.proofs.Short.{few-outer, few-inner}
use Rattle.law.specs.Menus.{menu_events, menu_answer, written_over}
use Rattle.law.specs.Chained.{too_short}
use Rattle.law.proofs.Offers.{menu-counts, menu-short}
use Rattle.fault.specs.declared.fault.Fault.{Fault}
use Rattle.law.proofs.Menus.{in-menu, out-menu, menu-alone}
use Rattle.rules.proofs.Candidates.{some-move, moved-some}
use Rattle.opened.specs.Listing.{Keeps, HoldsFirst, Listed, CarriedBy, MovesSome}
use Rattle.opened.specs.Opens.{tree_of_opened}
use Rattle.opened.specs.States.{states_in}
use Rattle.opened.specs.declared.opened.Opened.{Opened}

-- the event of a label and of arguments is in form
form-with : (label : ℕ) (x y : Option ℕ) → label ≤ 255 → InForm (event_with label x y)
form-with label None y h = record { label = h; count = omega arith; first = λ l. refl; second = λ l. refl }
form-with label (Some x) None h = record { label = h; count = omega arith; first = λ l. absurd (omega arith); second = λ l. refl }
form-with label (Some x) (Some y) h = record { label = h; count = omega arith; first = λ l. absurd (omega arith); second = λ l. absurd (omega arith) }

-- every arrow's label is at most 255
label-fits : (d : Drawing) → sound d.nodes d.arrows ≡ true → (k : ℕ) (w : Arrow) → slice_get d.arrows k ≡ Some w → w.label ≤ 255
unfolding sound
label-fits d s k w is =
    let p = and_parts _ _ (and_parts _ _ s).1 in
    let h = all-at (λ j. arrow_sound (slice_index_or d.arrows j blank_arrow) && arrow_placed d.nodes (slice_index_or d.arrows j blank_arrow)) (length d.arrows) k p.0 (slice_get_within d.arrows k w is) in
    let a : arrow_sound w ≡ true = subst (λ (v : Arrow). arrow_sound v ≡ true) (get_or_from_slice_get d.arrows k w blank_arrow is) (and_parts _ _ h).0 in
    leb-true w.label 255 (and_parts _ _ a).0

module _ (d : Diagram) (k outer inner : ℕ) (e : Event) where
  form-under : (w : Arrow) (v : Option Variables) → w.label ≤ 255 → event_under w v ≡ Some e → InForm e
  form-under w None h is = absurd (none-some e is)
  form-under w (Some v) h is =
      let same : event_with w.label (argument_of w.first v) (argument_of w.second v) ≡ e = cc in
      subst InForm same (form-with w.label (argument_of w.first v) (argument_of w.second v) h)

  form-of : (a : Option Arrow) → slice_get (arrows_in d.plan) k ≡ a → candidate_of d a outer inner ≡ Some e → InForm e
  form-of None there is = absurd (none-some e is)
  form-of (Some w) there is =
      form-under w (variables_at (values_of d.plan.values) (binders_at d.binders w.node) outer inner) (label-fits (drawing d.plan.procedure) d.plan.procedure.drawn k w there) is

  -- what an arrow carries is in form
  pub carried-form : candidate_at d k outer inner ≡ Some e → InForm e
  carried-form is = form-of (slice_get (arrows_in d.plan) k) refl is

-- the tree of the root is sound
pub root-sound : (o : Opened) → Sound (tree_of_opened o)
root-sound o = tree-sound (values_of o.diagram.plan.values) (drawing o.diagram.plan.procedure) o.diagram.plan.procedure.drawn (length (nodes_of o.diagram.plan) - 1)

module _ (o : Opened) (now : Meaning) where
  abbrev pub Moving : Event → Type 0
  Moving e = CarriedBy o.diagram (length (arrows_in o.diagram.plan)) e × MovesSome o now e

  pub moving-in : (e : Event) → Moving e → Memᴰ e (menu_events (tree_of_opened o) (states_in o.held) now)
  moving-in e ((k, low, (outer, in-outer, (inner, in-inner, is))), m) =
      let w = moved-some (tree_of_opened o) (answers_after now [] e) e (states_in o.held) m in
      in-menu (tree_of_opened o) (states_in o.held) now e w.0 w.2.0 (root-sound o) (carried-form o.diagram k outer inner e is) w.1 w.2.1

  pub moving-out : (e : Event) → Memᴰ e (menu_events (tree_of_opened o) (states_in o.held) now) → Moving e
  moving-out e i =
      let w = out-menu (tree_of_opened o) (states_in o.held) now e i in
      let c = candidates-complete o.diagram (answers_after now [] e) e w.1.0 w.1.2.0 w.0 w.1.2.1 in
      ((c.arrow, c.is_arrow, (c.outer, omega (arith, c.outer_is_position, few-outer o.diagram c.arrow), (c.inner, omega (arith, c.inner_is_position, few-inner o.diagram c.arrow), c.carries))), some-move (tree_of_opened o) (answers_after now [] e) e (states_in o.held) w.1.0 w.1.2.0 w.1.1 w.1.2.1)

  -- what was listed is the menu
  whole-menu : (out : OrderedEvents) (short : Bool) (l : Listed Moving [] out short) → l.whole ≡ menu_events (tree_of_opened o) (states_in o.held) now
  whole-menu out short l =
      menu-alone (tree_of_opened o) (states_in o.held) now l.whole (l.puts.rises tt)
      (λ e i. ⊎_elim (λ j. absurd (Memᴰ.not-nil j)) (λ m. moving-in e m) (l.puts.only e i))
      (λ e i. l.puts.all e (inr (moving-out e i)))

  module _ (out : OrderedEvents) (short : Bool) (l : Listed Moving [] out short) where
    pub first-menu : HoldsFirst (menu_events (tree_of_opened o) (states_in o.held) now) out
    first-menu = subst (λ (m : List Event). HoldsFirst m out) (whole-menu out short l) l.holds

    pub short-menu : short ≡ nat_lt (room out) (length (menu_events (tree_of_opened o) (states_in o.held) now))
    short-menu = subst (λ (m : List Event). short ≡ nat_lt (room out) (length m)) (whole-menu out short l) l.says

-- where a list over lent places holds the first of some events, and later places are as before, these were written over the places
pub written : (menu before : List Event) (fresh out : OrderedEvents) → fresh.places.now ≡ before → Keeps fresh out → HoldsFirst menu out → out.places.now ≡ written_over menu before
written menu before fresh out lent keeps first =
    let u = out.used in
    let n : length (held out) ≡ u = length-take-le u out.places.now out.fits in
    let r : room out ≡ length before = keeps.room ∙ ap length lent in
    let m : length (held out) ≡ min (room out) (length menu) = ap length first ∙ length-take (room out) menu in
    let later : drop u out.places.now ≡ drop u before = keeps.later u (omega arith) ∙ ap (λ (l : List Event). drop u l) lent in
    let rest : drop u before ≡ drop (length menu) before =
    ⊎_elim
    (λ lt. drop_all u before (omega arith) ∙ sym (drop_all (length menu) before (omega arith)))
    (λ le. let e : u ≡ length menu = omega arith in ap (λ (j : ℕ). drop j before) e)
    (cases_lt (length before) (length menu)) in
    sym (take-append-drop u out.places.now) ∙ ap₂ (λ (a b : List Event). a ++ b) (first ∙ ap (λ (j : ℕ). take j menu) r) (later ∙ rest)

-- what is answered where some had no room, and where all had
module _ (menu before : List Event) (fresh out : OrderedEvents) (lent : fresh.places.now ≡ before) (keeps : Keeps fresh out) (first : HoldsFirst menu out) where
  pub listed-many : true ≡ nat_lt (room out) (length menu) → Err (too_short (length before)) ≡ menu_answer (length before) menu
  listed-many short =
      let r : room out ≡ length before = keeps.room ∙ ap length lent in
      let lt = ltb-true (room out) (length menu) (sym short) in
      sym (menu-short (length before) menu (omega arith))

  pub listed-few : false ≡ nat_lt (room out) (length menu) → (n : ℕ) → n ≡ length (held out) → Ok n ≡ menu_answer (length before) menu
  listed-few all n is =
      let r : room out ≡ length before = keeps.room ∙ ap length lent in
      let le = ltb-false (room out) (length menu) (sym all) in
      let m : n ≡ length menu = is ∙ ap length first ∙ ap length (take_all (room out) menu le) in
      ap (λ (n : ℕ). let f : Result ℕ Fault = Ok n in f) m ∙ sym (menu-counts (length before) menu (omega arith))
