-- What a list holds after some events were put in.
use Rattle.std.proofs.Common.{◌≡◌, refl, sym, ◌∙◌, ap, subst, ℕ, zero, suc, ◌+◌, ◌<◌, ◌≤◌, ◌⊎◌, inl, inr, ⊎_elim, List, [], ◌∷◌, length, take, Option, Some, None, Ordering, Less, Equal, Greater, arith}
use Rattle.std.proofs.lemmas.List.{take_all, take-take, length-take}
use Rattle.std.proofs.lemmas.Bool.{cases_lt}
use Rattle.std.proofs.lemmas.Option.{none-some}
use mathlib.Core.List.Memᴰ
use Rattle.ordered.specs.Held.{held, room, places_from}
use Rattle.ordered.specs.Order.{by_rank, insert_ordered, kept}
use Rattle.ordered.proofs.Laws.{rising-insert, in-insert, in-back}
use Rattle.event.specs.Forms.{event_rank, OrderedEvents}
use Rattle.event.specs.Laws.{event_order}
use Rattle.event.specs.declared.event.Event.{Event}
use Rattle.law.specs.Counting.{ListsExactly}
use Rattle.diagram.specs.Carrying.{candidate_at}
use Rattle.diagram.specs.declared.diagram.Diagram.{Diagram}
use Rattle.opened.specs.Listing.{PutIn, Keeps, CarriedAt, CarriedBelow}

module _ {X : Type 0} (c : X → X → Ordering) where
  -- an insertion makes a list longer by one at most, and never shorter
  pub one-more : (xs : List X) (x : X) → length (insert_ordered c xs x) ≤ suc (length xs)
  one-more [] x = omega arith
  one-more (y ∷ ys) x =
      let h : length (insert_ordered c ys x) ≤ suc (length ys) = one-more ys x in
      elim (c x y) as (λ r. length (by_rank r (x ∷ y ∷ ys) (y ∷ ys) (y ∷ insert_ordered c ys x)) ≤ suc (suc (length ys))) [
        | Less ↦ omega arith
        | Equal ↦ omega arith
        | Greater ↦ omega arith
      ]

  pub no-fewer : (xs : List X) (x : X) → length xs ≤ length (insert_ordered c xs x)
  no-fewer [] x = omega arith
  no-fewer (y ∷ ys) x =
      let h : length ys ≤ length (insert_ordered c ys x) = no-fewer ys x in
      elim (c x y) as (λ r. suc (length ys) ≤ length (by_rank r (x ∷ y ∷ ys) (y ∷ ys) (y ∷ insert_ordered c ys x))) [
        | Less ↦ omega arith
        | Equal ↦ omega arith
        | Greater ↦ omega arith
      ]

  first-again : (n : ℕ) (xs : List X) → take n (take n xs) ≡ take n xs
  first-again n xs = take-take n n xs (omega arith)

  first-past : (n : ℕ) (y : X) (ys : List X) → take n (y ∷ take n ys) ≡ take n (y ∷ ys)
  first-past zero y ys = refl
  first-past (suc n) y ys = ap (λ (l : List X). y ∷ l) (take-take n (suc n) ys (omega arith))

  -- the first n after an insertion are told by the first n before it
  pub first-kept : (n : ℕ) (xs : List X) (x : X) → take n (insert_ordered c (take n xs) x) ≡ take n (insert_ordered c xs x)
  first-kept zero xs x = refl
  first-kept (suc n) [] x = refl
  first-kept (suc n) (y ∷ ys) x =
      elim (c x y) as (λ r. take (suc n) (by_rank r (x ∷ y ∷ take n ys) (y ∷ take n ys) (y ∷ insert_ordered c (take n ys) x)) ≡ take (suc n) (by_rank r (x ∷ y ∷ ys) (y ∷ ys) (y ∷ insert_ordered c ys x))) [
        | Less ↦ ap (λ (l : List X). x ∷ l) (first-past n y ys)
        | Equal ↦ ap (λ (l : List X). y ∷ l) (first-again n ys)
        | Greater ↦ ap (λ (l : List X). y ∷ l) (first-kept n ys x)
      ]

-- nothing is put in
pub put-none : (X : Event → Type 0) (l : List Event) → ((e : Event) → X e → ⊥) → PutIn X l l
put-none X l none = record { rises = λ r. r; only = λ e i. inl i; all = λ e s. ⊎_elim (λ i. i) (λ x. absurd (none e x)) s }

-- one is
pub put-one : (l : List Event) (x : Event) → PutIn (λ e. e ≡ x) l (insert_ordered event_rank l x)
put-one l x = record {
  rises = λ r. rising-insert event_rank event_order l x r;
  only = λ e i. in-insert event_rank l x e i;
  all = λ e s. in-back event_rank event_order l x e s;
}

-- some, and then some more
pub put-more : (X Y Z : Event → Type 0) (l m k : List Event) → ((e : Event) → Z e → X e ⊎ Y e) → ((e : Event) → X e → Z e) → ((e : Event) → Y e → Z e) → PutIn X l m → PutIn Y m k → PutIn Z l k
put-more X Y Z l m k split left right p q = record {
  rises = λ r. q.rises (p.rises r);
  only = λ e i. ⊎_elim (λ j. ⊎_elim (λ h. inl h) (λ x. inr (left e x)) (p.only e j)) (λ y. inr (right e y)) (q.only e i);
  all = λ e s. ⊎_elim (λ h. q.all e (inl (p.all e (inl h)))) (λ z. ⊎_elim (λ x. q.all e (inl (p.all e (inr x)))) (λ y. q.all e (inr y)) (split e z)) s;
}

-- the same events by another name
pub put-alike : (X Z : Event → Type 0) (l m : List Event) → ((e : Event) → Z e → X e) → ((e : Event) → X e → Z e) → PutIn X l m → PutIn Z l m
put-alike X Z l m to fro p = record {
  rises = p.rises;
  only = λ e i. ⊎_elim (λ h. inl h) (λ x. inr (fro e x)) (p.only e i);
  all = λ e s. p.all e (⊎_elim (λ h. inl h) (λ z. inr (to e z)) s);
}

module _ (n : ℕ) (l m : List Event) (x : Event) (is : m ≡ kept event_rank n l x) where
  pub kept-grows : length m ≤ suc (length l)
  kept-grows = rw is (omega (arith, one-more event_rank l x, length-take n (insert_ordered event_rank l x)))

  -- where there is room, nothing is left out
  pub put-kept : length l < n → PutIn (λ e. e ≡ x) l m
  put-kept h =
      let few : length (insert_ordered event_rank l x) ≤ n = omega (arith, one-more event_rank l x) in
      subst (λ (k : List Event). PutIn (λ e. e ≡ x) l k) (sym (is ∙ take_all n (insert_ordered event_rank l x) few)) (put-one l x)

-- a list that is added to
pub keep-same : (o : OrderedEvents) → Keeps o o
keep-same o = record { room = refl; grows = omega arith; later = λ n h. refl }

-- by an insertion
pub keep-next : (o m : OrderedEvents) → room m ≡ room o → length (held o) ≤ length (held m) → ((n : ℕ) → length (held m) ≤ n → places_from n m ≡ places_from n o) → Keeps o m
keep-next o m room grows later = record { room = room; grows = grows; later = later }

pub keep-more : (o m k : OrderedEvents) → Keeps o m → Keeps m k → Keeps o k
keep-more o m k p q = record {
  room = q.room ∙ p.room;
  grows = omega (arith, p.grows, q.grows);
  later = λ n h. q.later n h ∙ p.later n (omega (arith, q.grows));
}

-- what an arrow carries at an outer position, one inner position after the other
module _ (d : Diagram) (k outer n : ℕ) where
  pub carried-last : (o : Option Event) → candidate_at d k outer n ≡ o → (e : Event) → CarriedAt d k outer (n + 1) e → CarriedAt d k outer n e ⊎ (o ≡ Some e)
  carried-last o is e (inner, h, c) =
      ⊎_elim (λ lt. inl (inner, lt, c)) (λ ge. let same : inner ≡ n = omega arith in inr (sym is ∙ subst (λ (j : ℕ). candidate_at d k outer j ≡ Some e) same c)) (cases_lt inner n)

  pub carried-still : (e : Event) → CarriedAt d k outer n e → CarriedAt d k outer (n + 1) e
  carried-still e (inner, h, c) = (inner, omega arith, c)

  -- one that carries no event, or the event x
  pub put-nothing : (l m : List Event) → candidate_at d k outer n ≡ None → PutIn (CarriedAt d k outer n) l m → PutIn (CarriedAt d k outer (n + 1)) l m
  put-nothing l m is p = put-alike _ _ l m (λ e z. ⊎_elim (λ c. c) (λ q. absurd (none-some e q)) (carried-last None is e z)) carried-still p

  pub put-next : (x : Event) (l m j : List Event) → candidate_at d k outer n ≡ Some x → PutIn (CarriedAt d k outer n) l m → PutIn (λ e. e ≡ x) m j → PutIn (CarriedAt d k outer (n + 1)) l j
  put-next x l m j is p q =
      put-more _ _ _ l m j
      (λ e z. ⊎_elim (λ c. inl c) (λ s. let t : e ≡ x = cc in inr t) (carried-last (Some x) is e z))
      carried-still (λ e y. (n, omega arith, is ∙ ap Some (sym y))) p q

-- past a bound of its inner positions it carries nothing
pub put-inner : (d : Diagram) (k outer n i : ℕ) (l m : List Event) → ((outer inner : ℕ) → n ≤ inner → candidate_at d k outer inner ≡ None) → n ≤ i → i ≤ 17 → PutIn (CarriedAt d k outer i) l m → PutIn (CarriedAt d k outer 17) l m
put-inner d k outer n i l m none h w p =
    put-alike _ _ l m
    (λ e z. ⊎_elim (λ lt. (z.0, lt, z.2)) (λ ge. let no : candidate_at d k outer z.0 ≡ None = none outer z.0 (omega arith) in absurd (none-some e (sym no ∙ z.2))) (cases_lt z.0 i))
    (λ e z. (z.0, omega (arith, z.1), z.2))
    p

-- what it carries at outer positions, one after the other
pub below-last : (d : Diagram) (k n : ℕ) (e : Event) → CarriedBelow d k (n + 1) e → CarriedBelow d k n e ⊎ CarriedAt d k n 17 e
below-last d k n e (outer, h, c) =
    ⊎_elim (λ lt. inl (outer, lt, c)) (λ ge. let same : outer ≡ n = omega arith in inr (subst (λ (j : ℕ). CarriedAt d k j 17 e) same c)) (cases_lt outer n)

pub put-outer : (d : Diagram) (k n : ℕ) (l m j : List Event) → PutIn (CarriedBelow d k n) l m → PutIn (CarriedAt d k n 17) m j → PutIn (CarriedBelow d k (n + 1)) l j
put-outer d k n l m j p q = put-more _ _ _ l m j (below-last d k n) (λ e c. (c.0, omega (arith, c.1), c.2)) (λ e c. (n, omega arith, c)) p q

-- past a bound of its outer positions it carries nothing
pub put-outers : (d : Diagram) (k n i : ℕ) (l m : List Event) → ((outer inner : ℕ) → n ≤ outer → candidate_at d k outer inner ≡ None) → n ≤ i → i ≤ 17 → PutIn (CarriedBelow d k i) l m → PutIn (CarriedBelow d k 17) l m
put-outers d k n i l m none h w p =
    put-alike _ _ l m
    (λ e z. ⊎_elim (λ lt. (z.0, lt, z.2)) (λ ge. let no : candidate_at d k z.0 z.2.0 ≡ None = none z.0 z.2.0 (omega arith) in absurd (none-some e (sym no ∙ z.2.2))) (cases_lt z.0 i))
    (λ e z. (z.0, omega (arith, z.1), z.2))
    p

-- what was put into nothing is exactly what is held
pub put-exactly : (X : Event → Type 0) (l m : List Event) → l ≡ [] → PutIn X l m → ListsExactly event_rank X m
put-exactly X l m none p =
    let q = subst (λ (l : List Event). PutIn X l m) none p in
    record { rises = q.rises tt; only = λ e i. ⊎_elim (λ j. absurd (Memᴰ.not-nil j)) (λ x. x) (q.only e i); all = λ e x. q.all e (inr x) }
