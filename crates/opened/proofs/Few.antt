-- No menu has more events than 256 arrows can carry under 16 values of each variable.
use Rattle.std.proofs.Common.{◌≡◌, refl, ℕ, zero, suc, ◌+◌, ◌*◌, ◌≤◌, List, [], ◌∷◌, ◌++◌, map, length, Option, Some, None, length-append, arith}
use Rattle.std.proofs.Math.Nat.{suc-mul}
use Rattle.std.proofs.lemmas.List.{length-map}
use Rattle.std.proofs.lemmas.Option.{none-some}
use Rattle.std.specs.List.{slice_get, flat_map}
use mathlib.Core.List.{Memᴰ}
use mathlib.Core.List.Memᴰ
use Rattle.notation.specs.declared.arrow.Arrow.{Arrow}
use Rattle.ordered.specs.Order.{Rising}
use Rattle.event.specs.Forms.{event_rank}
use Rattle.event.specs.Laws.{event_order}
use Rattle.event.specs.declared.event.Event.{Event}
use Rattle.host.specs.Meanings.{Meaning}
use Rattle.rules.specs.Trees.{argument_of}
use Rattle.rules.specs.Growing.{Values}
use Rattle.rules.specs.Candidates.{event_with}
use Rattle.rules.specs.Ends.{arranged}
use Rattle.rules.proofs.Lists.{in-flat}
use Rattle.rules.proofs.Ends.{in-arranged, rising-arranged}
use Rattle.diagram.specs.Valued.{values_of}
use Rattle.diagram.specs.Plans.{arrows_in}
use Rattle.diagram.specs.Scopes.{given, variable_at, variables_of, variables_at, binders_at}
use Rattle.diagram.specs.Carrying.{event_under, candidate_of, candidate_at}
use Rattle.diagram.specs.declared.binders.Binders.{Binders}
use Rattle.diagram.specs.declared.diagram.Diagram.{Diagram}
use Rattle.diagram.proofs.Short.{values-short}
use Rattle.law.specs.Menus.{menu_events}
use Rattle.law.proofs.Menus.{menu-rises}
use Rattle.ordered.proofs.Alone.{shorter}
use Rattle.opened.specs.Opens.{tree_of_opened}
use Rattle.opened.specs.States.{states_in}
use Rattle.opened.specs.declared.opened.Opened.{Opened}
use Rattle.opened.proofs.Putting.{one-more}
use Rattle.opened.proofs.Menus.{moving-out}

-- at most n for each element
flat-short : {A B : Type 0} (f : A → List B) (n : ℕ) → ((x : A) → length (f x) ≤ n) → (l : List A) → length (flat_map f l) ≤ length l * n
flat-short f n h [] = omega arith
flat-short f n h (x ∷ l) =
    let s : suc (length l) * n ≡ length l * n + n = suc-mul (length l) n in
    let a : length (f x ++ flat_map f l) ≡ length (f x) + length (flat_map f l) = length-append (f x) (flat_map f l) in
    omega (arith, h x, flat-short f n h l)

arranged-short : (l : List Event) → length (arranged event_rank l) ≤ length l
unfolding arranged
arranged-short [] = omega arith
arranged-short (x ∷ l) = omega (arith, one-more event_rank (arranged event_rank l) x, arranged-short l)

-- a rising list is no longer than one that holds its members
pub rising-short : (l all : List Event) → Rising event_rank l → ((e : Event) → Memᴰ e l → Memᴰ e all) → length l ≤ length all
rising-short l all r f =
    let s = shorter event_rank event_order (arranged event_rank all) l r (rising-arranged event_rank event_order all) (λ e i. in-arranged event_rank event_order e all (f e i)) in
    omega (arith, s, arranged-short all)

member-at : {A : Type 0} (l : List A) (k : ℕ) (x : A) → slice_get l k ≡ Some x → Memᴰ x l
member-at [] k x e = absurd (none-some x e)
member-at (y ∷ l) zero x e = Memᴰ.head cc
member-at (y ∷ l) (suc k) x e = Memᴰ.tail (member-at l k x e)

-- what a variable can be: absent without a type, else one of its values
choices : Values → Option ℕ → List (Option ℕ)
choices values None = None ∷ []
choices values (Some ty) = map Some (values ty)

in-choices : (values : Values) (ty : Option ℕ) (k : ℕ) (u : Option ℕ) → variable_at values ty k ≡ Some u → Memᴰ u (choices values ty)
unfolding choices
in-choices values None zero u e = Memᴰ.head cc
in-choices values None (suc k) u e = absurd (none-some u e)
in-choices values (Some ty) zero u e = absurd (none-some u e)
in-choices values (Some ty) (suc k) u e = at (slice_get (values ty) k) refl e
  where
    at : (p : Option ℕ) → slice_get (values ty) k ≡ p → given p ≡ Some u → Memᴰ u (map Some (values ty))
    at None is e = absurd (none-some u e)
    at (Some x) is e = let same : u ≡ Some x = cc in Memᴰ.cast same (Memᴰ.map Some (member-at (values ty) k x is))

-- the events of an arrow under all of these
module _ (values : Values) (b : Binders) (w : Arrow) where
  event-at : Option ℕ → Option ℕ → Event
  event-at x y = event_with w.label (argument_of w.first (record { outer = x; inner = y })) (argument_of w.second (record { outer = x; inner = y }))

  events-under : List Event
  events-under = flat_map (λ x. map (event-at x) (choices values b.inner)) (choices values b.outer)

  in-under : (outer inner : ℕ) (e : Event) → event_under w (variables_at values b outer inner) ≡ Some e → Memᴰ e events-under
  unfolding events-under event-at
  in-under outer inner e is = at (variable_at values b.outer outer) (variable_at values b.inner inner) refl refl is
    where
      at : (p q : Option (Option ℕ)) → variable_at values b.outer outer ≡ p → variable_at values b.inner inner ≡ q → event_under w (variables_of p q) ≡ Some e → Memᴰ e events-under
      at None q f g is = absurd (none-some e is)
      at (Some x) None f g is = absurd (none-some e is)
      at (Some x) (Some y) f g is =
          let same : e ≡ event-at x y = cc in
          in-flat (λ x. map (event-at x) (choices values b.inner)) (in-choices values b.outer outer x f) (Memᴰ.cast same (Memᴰ.map (event-at x) (in-choices values b.inner inner y g)))

module _ (d : Diagram) where
  few-choices : (ty : Option ℕ) → length (choices (values_of d.plan.values) ty) ≤ 16
  unfolding choices
  few-choices None = omega arith
  few-choices (Some ty) = rw (length-map (values_of d.plan.values ty) Some) (values-short d.plan.values ty)

  events-of : Arrow → List Event
  events-of w = events-under (values_of d.plan.values) (binders_at d.binders w.node) w

  few-events : (w : Arrow) → length (events-of w) ≤ 256
  unfolding events-of events-under
  few-events w =
      let values = values_of d.plan.values in
      let b = binders_at d.binders w.node in
      let each : (x : Option ℕ) → length (map (event-at values b w x) (choices values b.inner)) ≤ 16 = λ x. rw (length-map (choices values b.inner) (event-at values b w x)) (few-choices b.inner) in
      omega (arith, flat-short (λ x. map (event-at values b w x) (choices values b.inner)) 16 each (choices values b.outer), few-choices b.outer)

  -- every event that some arrow carries is among these
  all-events : List Event
  all-events = flat_map events-of (arrows_in d.plan)

  in-all : (k outer inner : ℕ) (e : Event) → candidate_at d k outer inner ≡ Some e → Memᴰ e all-events
  unfolding all-events events-of
  in-all k outer inner e is = at (slice_get (arrows_in d.plan) k) refl is
    where
      at : (a : Option Arrow) → slice_get (arrows_in d.plan) k ≡ a → candidate_of d a outer inner ≡ Some e → Memᴰ e all-events
      at None there is = absurd (none-some e is)
      at (Some w) there is = in-flat events-of (member-at (arrows_in d.plan) k w there) (in-under (values_of d.plan.values) (binders_at d.binders w.node) w outer inner e is)

  few-all : length all-events ≤ 65536
  unfolding all-events
  few-all = omega (arith, flat-short events-of 256 few-events (arrows_in d.plan), d.plan.procedure.scarce)

pub menu-few : (o : Opened) (now : Meaning) → length (menu_events (tree_of_opened o) (states_in o.held) now) ≤ 65536
menu-few o now =
    let among = rising-short (menu_events (tree_of_opened o) (states_in o.held) now) (all-events o.diagram) (menu-rises (tree_of_opened o) (states_in o.held) now)
    (λ e i. let c = (moving-out o now e i).0 in in-all o.diagram c.0 c.2.0 c.2.2.0 e c.2.2.2) in
    omega (arith, among, few-all o.diagram)
