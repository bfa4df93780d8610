-- A list that holds the first of the events that were put to it.
use Rattle.std.proofs.Common.{◌≡◌, refl, sym, ◌∙◌, ap, subst, ℕ, ◌+◌, ◌<◌, ◌⊎◌, inl, inr, ⊎_elim, Bool, true, false, ◌||◌, nat_lt, List, [], ◌∷◌, length, take, drop, Ordering, slice_index_or, arith}
use Rattle.std.proofs.Math.Bool.{or-false, or-true}
use Rattle.std.proofs.lemmas.Bool.{cases_lt, le-ltb}
use Rattle.std.proofs.lemmas.Bool.Decides.{nat_tests}
use Rattle.std.proofs.lemmas.List.{take_all, take_more, take-append-drop}
use mathlib.Core.List.{Memᴰ}
use mathlib.Core.List.Memᴰ
use Rattle.ordered.specs.Order.{insert_ordered, kept, spills}
use Rattle.ordered.specs.Held.{held, room}
use Rattle.event.specs.Forms.{event_rank, OrderedEvents}
use Rattle.event.specs.declared.event.Event.{Event}
use Rattle.diagram.specs.declared.diagram.Diagram.{Diagram}
use Rattle.opened.specs.Listing.{HoldsFirst, Listed, CarriedBelow, CarriedBy}
use Rattle.opened.proofs.Putting.{no-fewer, first-kept, put-none, put-one, put-more, put-alike}

-- an element of the first i + 1 is one of the first i, or the one at i
pub taken-last : (l : List Event) (i : ℕ) (d e : Event) → i < length l → Memᴰ e (take (i + 1) l) → Memᴰ e (take i l) ⊎ (e ≡ slice_index_or l i d)
taken-last l i d e h m = ⊎_elim (λ j. inl j) (λ j. inr (Memᴰ.eq_of_singleton j)) (Memᴰ.append_cases (take i l) (rw (take_more l i d h) at m))

pub taken-still : (l : List Event) (i : ℕ) (d e : Event) → i < length l → Memᴰ e (take i l) → Memᴰ e (take (i + 1) l)
taken-still l i d e h m = rw (take_more l i d h) (Memᴰ.append_left (slice_index_or l i d ∷ []) m)

pub taken-there : (l : List Event) (i : ℕ) (d : Event) → i < length l → Memᴰ (slice_index_or l i d) (take (i + 1) l)
taken-there l i d h = rw (take_more l i d h) (Memᴰ.append_right (take i l) (Memᴰ.head refl))

-- an element of the first n is one of all
of-first : (n : ℕ) (l : List Event) (e : Event) → Memᴰ e (take n l) → Memᴰ e l
of-first n l e m = subst (λ (k : List Event). Memᴰ e k) (take-append-drop n l) (Memᴰ.append_left (drop n l) m)

-- one is left out, of the first n or of all
left-out : {X : Type 0} (c : X → X → Ordering) (n : ℕ) (l : List X) (x : X) → (nat_lt n (length l) || nat_lt n (length (insert_ordered c (take n l) x))) ≡ nat_lt n (length (insert_ordered c l x))
left-out c n l x =
    ⊎_elim
    (λ lt. let m = no-fewer c l x in grind (arith, nat_tests))
    (λ ge. rw (take_all n l ge) (let m = no-fewer c l x in grind (arith, nat_tests)))
    (cases_lt n (length l))

-- nothing was put
pub listed-none : (X : Event → Type 0) (others : List Event) (o : OrderedEvents) → ((e : Event) → X e → ⊥) → HoldsFirst others o → Listed X others o (nat_lt (room o) (length others) || false)
listed-none X others o none is = record { whole = others; puts = put-none X others none; holds = is; says = or-false (nat_lt (room o) (length others)) }

module _ (X Z : Event → Type 0) (others : List Event) (o m : OrderedEvents) where
  -- the same events by another name
  pub listed-alike : (s : Bool) → ((e : Event) → Z e → X e) → ((e : Event) → X e → Z e) → Listed X others o s → Listed Z others o s
  listed-alike s to fro l = record { whole = l.whole; puts = put-alike X Z others l.whole to fro l.puts; holds = l.holds; says = l.says }

  -- one event more
  pub listed-next : (x : Event) (s t : Bool) → ((e : Event) → Z e → X e ⊎ (e ≡ x)) → ((e : Event) → X e → Z e) → Z x
      → held m ≡ kept event_rank (room o) (held o) x → t ≡ spills event_rank (room o) (held o) x → room m ≡ room o
      → Listed X others o s → Listed Z others m (s || t)
  listed-next x s t split still there is over same l =
      let n = room o in
      record {
        whole = insert_ordered event_rank l.whole x;
        puts = put-more X (λ e. e ≡ x) Z others l.whole (insert_ordered event_rank l.whole x) split still (λ e q. subst Z (sym q) there) l.puts (put-one l.whole x);
        holds = is ∙ ap (λ (k : List Event). kept event_rank n k x) l.holds ∙ first-kept event_rank n l.whole x ∙ ap (λ (j : ℕ). take j (insert_ordered event_rank l.whole x)) (sym same);
        says = ap (λ (b : Bool). b || t) l.says ∙ ap (λ (b : Bool). nat_lt n (length l.whole) || b) (over ∙ ap (λ (k : List Event). spills event_rank n k x) l.holds)
            ∙ left-out event_rank n l.whole x ∙ ap (λ (j : ℕ). nat_lt j (length (insert_ordered event_rank l.whole x))) (sym same);
      }

-- what is listed of some events, of which those of M are put
module _ (M : Event → Type 0) (others events : List Event) (i : ℕ) (d : Event) (there : i < length events) where
  abbrev Up : ℕ → Event → Type 0
  Up n e = Memᴰ e (take n events) × M e

  pub passed-by : (o : OrderedEvents) (s : Bool) → (M (slice_index_or events i d) → ⊥) → Listed (Up i) others o s → Listed (Up (i + 1)) others o s
  passed-by o s no-move l =
      listed-alike (Up i) (Up (i + 1)) others o o s
      (λ e z. ⊎_elim (λ j. (j, z.1)) (λ q. absurd (no-move (subst M q z.1))) (taken-last events i d e there z.0))
      (λ e x. (taken-still events i d e there x.0, x.1))
      l

  -- one that is held already
  pub held-there : (o : OrderedEvents) (s : Bool) → Memᴰ (slice_index_or events i d) (held o) → Listed (Up i) others o s → Listed (Up (i + 1)) others o s
  held-there o s here l =
      let x = slice_index_or events i d in
      let among : Memᴰ x l.whole = of-first (room o) l.whole x (subst (λ (k : List Event). Memᴰ x k) l.holds here) in
      record {
        whole = l.whole;
        puts = record {
          rises = l.puts.rises;
          only = λ e j. ⊎_elim (λ k. inl k) (λ u. inr (taken-still events i d e there u.0, u.1)) (l.puts.only e j);
          all = λ e z. ⊎_elim (λ k. l.puts.all e (inl k))
              (λ u. ⊎_elim (λ j. l.puts.all e (inr (j, u.1))) (λ q. subst (λ (y : Event). Memᴰ y l.whole) (sym q) among) (taken-last events i d e there u.0)) z;
        };
        holds = l.holds;
        says = l.says;
      }

  pub put-there : (o m : OrderedEvents) (s t u : Bool) → M (slice_index_or events i d) → held m ≡ kept event_rank (room o) (held o) (slice_index_or events i d)
      → t ≡ spills event_rank (room o) (held o) (slice_index_or events i d) → room m ≡ room o → (s || t) ≡ u → Listed (Up i) others o s → Listed (Up (i + 1)) others m u
  put-there o m s t u moved is over same answer l =
      subst (λ (k : Bool). Listed (Up (i + 1)) others m k) answer
      (listed-next (Up i) (Up (i + 1)) others o m (slice_index_or events i d) s t
      (λ e z. ⊎_elim (λ j. inl (j, z.1)) (λ q. inr q) (taken-last events i d e there z.0))
      (λ e x. (taken-still events i d e there x.0, x.1))
      (taken-there events i d there, moved)
      is over same l)

-- the answer, where one was left out, and where none was
pub short-now : (a b t : Bool) → t ≡ true → ((a || b) || t) ≡ (a || true)
short-now a b t e = ap (λ (k : Bool). (a || b) || k) e ∙ or-true (a || b) ∙ sym (or-true a)

pub short-still : (a b t : Bool) → t ≡ false → ((a || b) || t) ≡ (a || b)
short-still a b t e = ap (λ (k : Bool). (a || b) || k) e ∙ or-false (a || b)

-- to an empty list nothing was put yet
pub listed-nothing : (X : Event → Type 0) (o : OrderedEvents) → ((e : Event) → X e → ⊥) → held o ≡ [] → Listed X [] o false
listed-nothing X o none empty =
    record { whole = []; puts = put-none X [] none; holds = empty ∙ sym (take_all (room o) [] (omega arith)); says = sym (le-ltb (room o) 0 (omega arith)) }

-- some events, and then some more
pub listed-then : (X Y Z : Event → Type 0) (others : List Event) (o m : OrderedEvents) (s t u : Bool) → ((e : Event) → Z e → X e ⊎ Y e) → ((e : Event) → X e → Z e) → ((e : Event) → Y e → Z e) → (s || t) ≡ u
    → Listed X others o s → ((w : List Event) → HoldsFirst w o → Listed Y w m (nat_lt (room o) (length w) || t)) → Listed Z others m u
listed-then X Y Z others o m s t u split left right answer l more =
    let q = more l.whole l.holds in
    record { whole = q.whole; puts = put-more X Y Z others l.whole q.whole split left right l.puts q.puts; holds = q.holds; says = sym answer ∙ ap (λ (b : Bool). b || t) l.says ∙ q.says }

-- what arrows carry, one after the other
pub by-last : (d : Diagram) (n : ℕ) (e : Event) → CarriedBy d (n + 1) e → CarriedBy d n e ⊎ CarriedBelow d n 17 e
by-last d n e (k, h, c) =
    ⊎_elim (λ lt. inl (k, lt, c)) (λ ge. let same : k ≡ n = omega arith in inr (subst (λ (j : ℕ). CarriedBelow d j 17 e) same c)) (cases_lt k n)

pub listed-arrow : (M : Event → Type 0) (d : Diagram) (n : ℕ) (o m : OrderedEvents) (s t u : Bool) → (s || t) ≡ u → Listed (λ e. CarriedBy d n e × M e) [] o s
    → ((w : List Event) → HoldsFirst w o → Listed (λ e. CarriedBelow d n 17 e × M e) w m (nat_lt (room o) (length w) || t)) → Listed (λ e. CarriedBy d (n + 1) e × M e) [] m u
listed-arrow M d n o m s t u answer l more =
    listed-then _ _ _ [] o m s t u
    (λ e z. ⊎_elim (λ a. inl (a, z.1)) (λ b. inr (b, z.1)) (by-last d n e z.0))
    (λ e x. ((x.0.0, omega (arith, x.0.1), x.0.2), x.1))
    (λ e y. ((n, omega arith, y.0), y.1))
    answer l more
