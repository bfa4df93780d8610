-- Every event that moves a part is carried by an arrow of it, and stands among its candidates.
use Rattle.std.proofs.Common.{◌≡◌, refl, sym, ◌∙◌, ap, subst, ℕ, zero, suc, ◌<◌, ◌↔◌, cond, Bool, true, false, ◌||◌, true≢false, inl, inr, ⊎_elim, List, [], ◌∷◌, map, Some, None, nat_le, leb-true, leb-false, arith}
use Rattle.std.proofs.lemmas.Bool.{cases_lt}
use Rattle.std.proofs.lemmas.Bool.{or_right}
use Rattle.std.proofs.lemmas.Option.{none-some}
use Rattle.std.specs.List.{slice_get, filter}
use Rattle.rules.proofs.Lists.{in-flat}
use mathlib.Core.List.{Memᴰ}
use mathlib.Core.List.Memᴰ
use Rattle.event.specs.Forms.{InForm, first_argument, second_argument, event_rank}
use Rattle.event.specs.Laws.{event_order}
use Rattle.event.specs.declared.event.Event.{Event}
use Rattle.host.specs.Meanings.{Meaning}
use Rattle.host.specs.declared.variables.Variables.{Variables}
use Rattle.rules.specs.Trees.{NumberedArrow, Tree, elementary, automaton, sequence, closure, guarded, choice, synchronisation, quantified_choice, quantified_synchronisation, no_variables, bound, Guards}
use Rattle.rules.specs.Cells.{Cells, cell, width, has_value}
use Rattle.rules.specs.Rules.{Motion, Carries, Step, OneMoves, AllMove}
use Rattle.rules.specs.Rules.AutomatonRule.{aut-1, aut-6}
use Rattle.rules.specs.Rules.SequenceRule.{seq-1, seq-2, seq-3}
use Rattle.rules.specs.Rules.ClosureRule.{clo-1, clo-2}
use Rattle.rules.specs.Rules.GuardRule.{gua-1, gua-2}
use Rattle.rules.specs.Rules.ChoiceRule.{cho-1, cho-2, cho-3, cho-4}
use Rattle.rules.specs.Rules.SynchronisationRule.{syn-1, syn-2, syn-3}
use Rattle.rules.specs.Rules.QuantifiedChoiceRule.{qch-1, qch-2}
use Rattle.rules.specs.Rules.OneMoves.{this_one, later_one}
use Rattle.rules.specs.Rules.AllMove.{none_left, this_too}
use Rattle.rules.specs.Rules.QuantifiedSynchronisationRule.{qsy-1, qsy-2}
use Rattle.rules.specs.Chains.{answers_after, GoesOn}
use Rattle.rules.specs.InRange.{Sound}
use Rattle.rules.specs.Moves.{moves}
use Rattle.rules.specs.Ends.{ends}
use Rattle.rules.specs.Candidates.{Carried, event_with, event_of, in_each, candidates, has_one, some_moves, menu}
use Rattle.rules.proofs.Fits.{fits}
use Rattle.rules.proofs.Ends.{in-arranged, out-arranged, rising-arranged, listed-ends}
use Rattle.ordered.specs.Order.{Rising}

value-in : (xs : List ℕ) (k x : ℕ) → slice_get xs k ≡ Some x → Memᴰ x xs
value-in [] k x e = absurd (none-some x e)
value-in (y ∷ xs) zero x e = Memᴰ.head cc
value-in (y ∷ xs) (suc k) x e = Memᴰ.tail (value-in xs k x e)

-- what moves one or all of the instances moves one under some value
module _ (n : ℕ) (B : ℕ → Motion) (P : ℕ → Type 0) (f : (x : ℕ) (r r' : Cells) → B x r r' → P x) where
  one-under : (xs : List ℕ) (r r' : Cells) → OneMoves n B xs r r' → (x : ℕ) × Memᴰ x xs × P x
  one-under xs r r' (this_one {x = x} s' h e) = (x, Memᴰ.head refl, f x _ _ h)
  one-under xs r r' (later_one {xs = ys} q' h e) = let o = one-under ys _ _ h in (o.0, Memᴰ.tail o.1, o.2)

  all-under : (xs : List ℕ) (r r' : Cells) → has_value xs ≡ true → AllMove n B xs r r' → (x : ℕ) × Memᴰ x xs × P x
  all-under xs r r' y (none_left e) = absurd (true≢false (sym y))
  all-under xs r r' y (this_too {x = x} s' q' h g e) = (x, Memᴰ.head refl, f x _ _ h)

pub step-carried : (t : Tree) (g : Guards) (e : Event) (v : Variables) (r r' : Cells) → Step t g e v r r' → Carried t e v
step-carried elementary g e v r r' h = h
step-carried (automaton count start mark child ws) g e v r r' (aut-1 a i l q) = inl (a, i, l.carries)
step-carried (automaton count start mark child ws) g e v r r' (aut-6 s' h q) = inr (cell r, step-carried (child (cell r)) g e v _ s' h)
step-carried (sequence a b) g e v r r' (seq-1 s' c h q) = inl (step-carried a g e v _ s' h)
step-carried (sequence a b) g e v r r' (seq-2 s' c d h q) = inr (step-carried b g e v _ s' h)
step-carried (sequence a b) g e v r r' (seq-3 s' c h q) = inr (step-carried b g e v _ s' h)
step-carried (closure b) g e v r r' (clo-1 s' c h q) = step-carried b g e v _ s' h
step-carried (closure b) g e v r r' (clo-2 s' c h q) = step-carried b g e v _ s' h
step-carried (guarded guard b) g e v r r' (gua-1 s' c d h q) = step-carried b g e v _ s' h
step-carried (guarded guard b) g e v r r' (gua-2 s' c h q) = step-carried b g e v _ s' h
step-carried (choice a b) g e v r r' (cho-1 s' c h q) = inl (step-carried a g e v _ s' h)
step-carried (choice a b) g e v r r' (cho-2 s' c h q) = inr (step-carried b g e v _ s' h)
step-carried (choice a b) g e v r r' (cho-3 s' c h q) = inl (step-carried a g e v _ s' h)
step-carried (choice a b) g e v r r' (cho-4 s' c h q) = inr (step-carried b g e v _ s' h)
step-carried (synchronisation labels a b) g e v r r' (syn-1 s' d h q) = inl (step-carried a g e v _ s' h)
step-carried (synchronisation labels a b) g e v r r' (syn-2 s' d h q) = inr (step-carried b g e v _ s' h)
step-carried (synchronisation labels a b) g e v r r' (syn-3 s' t' d h k q) = inl (step-carried a g e v _ s' h)
step-carried (quantified_choice xs b) g e v r r' (qch-1 k x s' c d h q) = (x, value-in xs k x d, step-carried b g e (bound x v) _ s' h)
step-carried (quantified_choice xs b) g e v r r' (qch-2 k x s' c d h q) = (x, value-in xs k x d, step-carried b g e (bound x v) _ s' h)
step-carried (quantified_synchronisation xs labels b) g e v r r' (qsy-1 d h) = one-under (width b) _ (λ x. Carried b e (bound x v)) (λ x s s' k. step-carried b g e (bound x v) s s' k) xs r r' h
step-carried (quantified_synchronisation xs labels b) g e v r r' (qsy-2 d y h) = all-under (width b) _ (λ x. Carried b e (bound x v)) (λ x s s' k. step-carried b g e (bound x v) s s' k) xs r r' y h

-- an event in form is its label and its arguments
event-parts : (e : Event) → InForm e → e ≡ event_with e.label (first_argument e) (second_argument e)
event-parts e f = by-count (nat_le 1 e.count) (nat_le 2 e.count) refl refl
  where
    by-count : (b c : Bool) → nat_le 1 e.count ≡ b → nat_le 2 e.count ≡ c → e ≡ event_with e.label (cond b (Some e.first) None) (cond c (Some e.second) None)
    by-count false c h k =
        let l = leb-false 1 e.count h in
        let n : e.count ≡ 0 = omega arith in
        let x : e.first ≡ 0 = f.first (omega arith) in
        let y : e.second ≡ 0 = f.second (omega arith) in
        λ i. record { label = e.label; count = n i; first = x i; second = y i }
    by-count true false h k =
        let l = leb-true 1 e.count h in
        let l' = leb-false 2 e.count k in
        let n : e.count ≡ 1 = omega arith in
        let y : e.second ≡ 0 = f.second (omega arith) in
        λ i. record { label = e.label; count = n i; first = e.first; second = y i }
    by-count true true h k =
        let l = leb-true 2 e.count k in
        let n : e.count ≡ 2 = omega (arith, f.count) in
        λ i. record { label = e.label; count = n i; first = e.first; second = e.second }

pub carried-event : (v : Variables) (a : NumberedArrow) (e : Event) → InForm e → Carries a.arrow e v → e ≡ event_of v a
carried-event v a e f c = event-parts e f ∙ λ i. event_with (sym c.label i) (sym c.first i) (sym c.second i)

in-below : (f : ℕ → List Event) (e : Event) (n q : ℕ) → q < n → Memᴰ e (f q) → Memᴰ e (in_each f n)
in-below f e zero q h m = absurd (omega arith)
in-below f e (suc n) q h m =
    ⊎_elim
    (λ lt. Memᴰ.append_left (f n) (in-below f e n q lt m))
    (λ ge. let s : q ≡ n = omega arith in Memᴰ.append_right (in_each f n) (subst (λ (z : ℕ). Memᴰ e (f z)) s m))
    (cases_lt q n)

pub carried-listed : (t : Tree) (e : Event) (v : Variables) → Sound t → InForm e → Carried t e v → Memᴰ e (candidates t v)
carried-listed elementary e v s f c = absurd c
carried-listed (automaton count start mark child ws) e v s f (inl c) =
    Memᴰ.append_left (in_each (λ q. candidates (child q) v) count) (Memᴰ.cast (carried-event v c.0 e f c.2) (Memᴰ.map (event_of v) c.1))
carried-listed (automaton count start mark child ws) e v s f (inr c) =
    let k = carried-listed (child c.0) e v (s.3 c.0) f c.1 in
    Memᴰ.append_right (map (event_of v) ws)
    (⊎_elim
    (λ lt. in-below (λ q. candidates (child q) v) e count c.0 lt k)
    (λ ge. absurd (subst (λ (t : Tree). Carried t e v) (s.2 c.0 ge) c.1))
    (cases_lt c.0 count))
carried-listed (sequence a b) e v s f (inl c) = Memᴰ.append_left (candidates b v) (carried-listed a e v s.0 f c)
carried-listed (sequence a b) e v s f (inr c) = Memᴰ.append_right (candidates a v) (carried-listed b e v s.1 f c)
carried-listed (closure b) e v s f c = carried-listed b e v s f c
carried-listed (guarded guard b) e v s f c = carried-listed b e v s f c
carried-listed (choice a b) e v s f (inl c) = Memᴰ.append_left (candidates b v) (carried-listed a e v s.0 f c)
carried-listed (choice a b) e v s f (inr c) = Memᴰ.append_right (candidates a v) (carried-listed b e v s.1 f c)
carried-listed (synchronisation labels a b) e v s f (inl c) = Memᴰ.append_left (candidates b v) (carried-listed a e v s.0 f c)
carried-listed (synchronisation labels a b) e v s f (inr c) = Memᴰ.append_right (candidates a v) (carried-listed b e v s.1 f c)
carried-listed (quantified_choice xs b) e v s f c = in-flat (λ x. candidates b (bound x v)) c.1 (carried-listed b e (bound c.0 v) s f c.2)
carried-listed (quantified_synchronisation xs labels b) e v s f c = in-flat (λ x. candidates b (bound x v)) c.1 (carried-listed b e (bound c.0 v) s f c.2)

pub in-filter : (test : Event → Bool) (e : Event) (l : List Event) → test e ≡ true → Memᴰ e l → Memᴰ e (filter test l)
in-filter test e [] t m = m
in-filter test e (d ∷ l) t m =
    ⊎_elim
    (λ q. let yes : test d ≡ true = subst (λ (z : Event). test z ≡ true) q t in rw yes (Memᴰ.head q))
    (λ k. kept (test d) (in-filter test e l t k))
    (Memᴰ.cases_cons m)
  where
    kept : (b : Bool) → Memᴰ e (filter test l) → Memᴰ e (cond b (d ∷ filter test l) (filter test l))
    kept true i = Memᴰ.tail i
    kept false i = i

pub out-filter : (test : Event → Bool) (e : Event) (l : List Event) → Memᴰ e (filter test l) → test e ≡ true
out-filter test e [] m = absurd (Memᴰ.not-nil m)
out-filter test e (d ∷ l) m = at (test d) refl (λ k. out-filter test e l k) m
  where
    at : (b : Bool) → test d ≡ b → (Memᴰ e (filter test l) → test e ≡ true) → Memᴰ e (cond b (d ∷ filter test l) (filter test l)) → test e ≡ true
    at true is below k = ⊎_elim (λ q. ap test q ∙ is) below (Memᴰ.cases_cons k)
    at false is below k = below k

has-one : (r : Cells) (l : List Cells) → Memᴰ r l → has_one l ≡ true
has-one r [] m = absurd (Memᴰ.not-nil m)
has-one r (x ∷ l) m = refl

one-had : (l : List Cells) → has_one l ≡ true → (r : Cells) × Memᴰ r l
one-had [] h = absurd (true≢false (sym h))
one-had (x ∷ l) h = (x, Memᴰ.head refl)

module _ (t : Tree) (g : Guards) (e : Event) where
  pub some-move : (l : List Cells) (r r' : Cells) → Memᴰ r l → Step t g e no_variables r r' → some_moves t g e l ≡ true
  some-move [] r r' m s = absurd (Memᴰ.not-nil m)
  some-move (x ∷ l) r r' m s =
      ⊎_elim
      (λ q. let h = has-one r' (moves t g e no_variables x) ((fits t g e no_variables).complete x r' (subst (λ (z : Cells). Step t g e no_variables z r') q s)) in rw h refl)
      (λ k. or_right (has_one (moves t g e no_variables x)) (some_moves t g e l) (some-move l r r' k s))
      (Memᴰ.cases_cons m)

  pub moved-some : (l : List Cells) → some_moves t g e l ≡ true → (r : Cells) × Memᴰ r l × ((r' : Cells) × Step t g e no_variables r r')
  moved-some [] h = absurd (true≢false (sym h))
  moved-some (x ∷ l) h = at (has_one (moves t g e no_variables x)) refl (λ k. moved-some l k) h
    where
      at : (b : Bool) → has_one (moves t g e no_variables x) ≡ b → (some_moves t g e l ≡ true → (r : Cells) × Memᴰ r l × ((r' : Cells) × Step t g e no_variables r r')) → b || some_moves t g e l ≡ true → (r : Cells) × Memᴰ r (x ∷ l) × ((r' : Cells) × Step t g e no_variables r r')
      at true is below k = let o = one-had (moves t g e no_variables x) is in (x, Memᴰ.head refl, (o.0, (fits t g e no_variables).sound x o.0 o.1))
      at false is below k = let o = below k in (o.0, Memᴰ.tail o.1, o.2)

pub menu-goes-on : (t : Tree) (m : Meaning) (events : List Event) (e : Event) → Memᴰ e (menu t m events) → GoesOn t m events e
menu-goes-on t m events e i =
    let o = moved-some t (answers_after m events e) e (ends t m events) (out-filter _ e (candidates t no_variables) (out-arranged event_rank event_order e _ i)) in
    (o.2.0, (o.0, (listed-ends t m events o.0).0 o.1, o.2.1))

pub menu-rises : (t : Tree) (m : Meaning) (events : List Event) → Rising event_rank (menu t m events)
menu-rises t m events = rising-arranged event_rank event_order _

pub menu-exact : (t : Tree) (m : Meaning) (events : List Event) (e : Event) → Sound t → InForm e → Memᴰ e (menu t m events) ↔ GoesOn t m events e
menu-exact t m events e s f = (menu-goes-on t m events e, fro)
  where
    fro : GoesOn t m events e → Memᴰ e (menu t m events)
    fro (r', n) =
        in-arranged event_rank event_order e _
        (in-filter _ e (candidates t no_variables)
        (some-move t (answers_after m events e) e (ends t m events) n.0 r' ((listed-ends t m events n.0).1 n.1) n.2)
        (carried-listed t e no_variables s f (step-carried t (answers_after m events e) e no_variables n.0 r' n.2)))
