-- Cells in range stay in range.
use Rattle.std.proofs.Common.{◌≡◌, refl, sym, ◌∙◌, ap, subst, ℕ, zero, suc, ◌<◌, ◌≤◌, List, [], ◌∷◌, ◌++◌, length, drop, Some, le_refl, arith}
use Rattle.std.specs.List.{slice_get}
use mathlib.Core.Logic.{⊎_elim}
use Rattle.std.proofs.lemmas.Bool.{cases_lt}
use Rattle.std.proofs.lemmas.Option.{none-some, slice_get_within}
use Rattle.notation.specs.declared.node.Mark.{Mark}
use Rattle.event.specs.declared.event.Event.{Event}
use Rattle.host.specs.declared.variables.Variables.{Variables}
use Rattle.rules.specs.Trees.{NumberedArrow, Tree, elementary, automaton, sequence, closure, guarded, choice, synchronisation, quantified_choice, quantified_synchronisation, bound, Guards}
use Rattle.rules.specs.Cells.{Cells, cell, rest, fit, most, copies, if_values, width, child_room, shared_room, body_room, in_state, part, initial}
use Rattle.rules.specs.Rules.{Motion, Step, OneMoves, AllMove}
use Rattle.rules.specs.Rules.AutomatonRule.{aut-1, aut-6}
use Rattle.rules.specs.Rules.SequenceRule.{seq-1, seq-2, seq-3}
use Rattle.rules.specs.Rules.ClosureRule.{clo-1, clo-2}
use Rattle.rules.specs.Rules.GuardRule.{gua-1, gua-2}
use Rattle.rules.specs.Rules.ChoiceRule.{cho-1, cho-2, cho-3, cho-4}
use Rattle.rules.specs.Rules.SynchronisationRule.{syn-1, syn-2, syn-3}
use Rattle.rules.specs.Rules.QuantifiedChoiceRule.{qch-1, qch-2}
use Rattle.rules.specs.Rules.OneMoves.{this_one, later_one}
use Rattle.rules.specs.Rules.AllMove.{none_left, this_too}
use Rattle.rules.specs.Rules.QuantifiedSynchronisationRule.{qsy-1, qsy-2}
use Rattle.rules.specs.InRange.{AtTag, AtSide, AtPosition, EachInstance, InRange, Sound}
use Rattle.rules.proofs.Widths.{length-fit, initial-width, Keeps, step-width}
use Rattle.rules.proofs.Instances.{fit-append, drop-append}

-- n cells that are put into m cells of room can be read there again
pub fit-back : (n m : ℕ) (s : Cells) → length s ≡ n → n ≤ m → fit n (fit m s) ≡ s
fit-back zero m [] l h = refl
fit-back zero m (x ∷ s) l h = absurd (omega arith)
fit-back (suc n) zero s l h = absurd (omega arith)
fit-back (suc n) (suc m) [] l h = absurd (omega arith)
fit-back (suc n) (suc m) (x ∷ s) l h = ap {B = Cells} (λ r. x ∷ r) (fit-back n m s (omega arith) (omega arith))

most-above : (n q : ℕ) (f : ℕ → ℕ) → q < n → f q ≤ most n f
most-above zero q f h = absurd (omega arith)
most-above (suc n) q f h =
    ⊎_elim
    (λ lt. let k = most-above n q f lt in omega arith)
    (λ ge. let e : q ≡ n = omega arith in rw e (omega arith))
    (cases_lt q n)

value-room : (xs : List ℕ) (k x n : ℕ) → slice_get xs k ≡ Some x → (k < length xs) × (n ≤ if_values xs n)
value-room [] k x n e = absurd (none-some x e)
value-room (y ∷ xs) k x n e = (slice_get_within (y ∷ xs) k x e, omega arith)

-- exactly n cells are themselves
pub fit-exact : (n : ℕ) (s : Cells) → length s ≡ n → fit n s ≡ s
fit-exact zero [] l = refl
fit-exact zero (x ∷ s) l = absurd (omega arith)
fit-exact (suc n) [] l = absurd (omega arith)
fit-exact (suc n) (x ∷ s) l = ap {B = Cells} (λ r. x ∷ r) (fit-exact n s (omega arith))

-- a part that was put into n cells of room
in-room : (t : Tree) (n : ℕ) (s : Cells) → length s ≡ width t → width t ≤ n → InRange t s → InRange t (part t (fit n s))
in-room t n s l h i = subst (λ (w : Cells). InRange t w) (sym (fit-back (width t) n s l h)) i

at-tag-0 : (P Q : Type 0) (n : ℕ) → n ≡ 0 → AtTag n P Q → P
at-tag-0 P Q n e p = subst (λ (k : ℕ). AtTag k P Q) e p

at-tag-1 : (P Q : Type 0) (n : ℕ) → n ≡ 1 → AtTag n P Q → Q
at-tag-1 P Q n e p = subst (λ (k : ℕ). AtTag k P Q) e p

at-side-1 : (P Q R : Type 0) (n : ℕ) → n ≡ 1 → AtSide n P Q R → Q
at-side-1 P Q R n e p = subst (λ (k : ℕ). AtSide k P Q R) e p

at-side-2 : (P Q R : Type 0) (n : ℕ) → n ≡ 2 → AtSide n P Q R → R
at-side-2 P Q R n e p = subst (λ (k : ℕ). AtSide k P Q R) e p

at-position : (P : Type 0) (m n k : ℕ) → n ≡ suc k → AtPosition m n P → P
at-position P m n k e p = (subst (λ (j : ℕ). AtPosition m j P) e p).1

-- both sides, of exact width
both-sides : (a b : Tree) (s t r' : Cells) → length s ≡ width a → length t ≡ width b → InRange a s → InRange b t → r' ≡ s ++ t → InRange a (part a r') × InRange b (part b (drop (width a) r'))
both-sides a b s t r' l k i j e =
    let x : part a r' ≡ s = ap (fit (width a)) e ∙ fit-append (width a) s t l in
    let y : part b (drop (width a) r') ≡ t = ap (λ (q : Cells). fit (width b) (drop (width a) q)) e ∙ ap (fit (width b)) (drop-append (width a) s t l) ∙ fit-exact (width b) t k in
    (subst (λ (q : Cells). InRange a q) (sym x) i, subst (λ (q : Cells). InRange b q) (sym y) j)

-- in every instance
module _ (P : Cells → Type 0) (n : ℕ) where
  each-copy : (xs : List ℕ) (s : Cells) → length s ≡ n → P s → EachInstance P n xs (copies xs s)
  each-copy [] s l p = tt
  each-copy (x ∷ xs) s l p = (subst P (sym (fit-append n s (copies xs s) l)) p, rw (drop-append n s (copies xs s) l) (each-copy xs s l p))

  each-joined : (xs : List ℕ) (x : ℕ) (s q r' : Cells) → length s ≡ n → P s → EachInstance P n xs q → r' ≡ s ++ q → EachInstance P n (x ∷ xs) r'
  each-joined xs x s q r' l p i e =
      (subst P (sym (ap (fit n) e ∙ fit-append n s q l)) p, subst (λ (w : Cells). EachInstance P n xs w) (sym (ap (drop n) e ∙ drop-append n s q l)) i)

  module _ (B : ℕ → Motion) (k : (x : ℕ) → Keeps n (B x)) (f : (x : ℕ) (r r' : Cells) → length r ≡ n → P r → B x r r' → P r') where
    one-each : (xs : List ℕ) (r r' : Cells) → EachInstance P n xs r → OneMoves n B xs r r' → EachInstance P n xs r'
    one-each xs r r' i (this_one {x = x} {xs = ys} s' h e) =
        each-joined ys x s' (drop n r) r' (k x _ s' (length-fit n r) h) (f x _ s' (length-fit n r) i.0 h) i.1 e
    one-each xs r r' i (later_one {x = x} {xs = ys} q' h e) =
        each-joined ys x (fit n r) q' r' (length-fit n r) i.0 (one-each ys (drop n r) q' i.1 h) e

    all-each : (xs : List ℕ) (r r' : Cells) → EachInstance P n xs r → AllMove n B xs r r' → EachInstance P n xs r'
    all-each xs r r' i (none_left e) = tt
    all-each xs r r' i (this_too {x = x} {xs = ys} s' q' h g e) =
        each-joined ys x s' q' r' (k x _ s' (length-fit n r) h) (f x _ s' (length-fit n r) i.0 h) (all-each ys (drop n r) q' i.1 g) e

-- the room of an automaton has place for the child of each state
child-fits : (count : ℕ) (child : ℕ → Tree) (q : ℕ) → q < count → width (child q) ≤ child_room count child
child-fits count child q h = most-above count q (λ q. width (child q)) h

in-automaton : (count start : ℕ) (mark : ℕ → Mark) (child : ℕ → Tree) (ws : List NumberedArrow) (q : ℕ) (s r' : Cells) → q < count → length s ≡ width (child q) → InRange (child q) s → r' ≡ in_state count child q s → InRange (automaton count start mark child ws) r'
in-automaton count start mark child ws q s r' h l i e =
    subst (λ (w : Cells). InRange (automaton count start mark child ws) w) (sym e)
    (h, subst (λ (w : Cells). InRange (child q) w) (sym (fit-back (width (child q)) (child_room count child) s l (child-fits count child q h))) i)

pub initial-in-range : (t : Tree) → Sound t → InRange t (initial t)
initial-in-range elementary w = tt
initial-in-range (automaton count start mark child ws) w = in-automaton count start mark child ws start (initial (child start)) _ w.0 (initial-width (child start)) (initial-in-range (child start) (w.3 start)) refl
initial-in-range (sequence a b) w = in-room a (shared_room a b) (initial a) (initial-width a) (omega arith) (initial-in-range a w.0)
initial-in-range (closure b) w = tt
initial-in-range (guarded guard b) w = tt
initial-in-range (choice a b) w = tt
initial-in-range (synchronisation labels a b) w = both-sides a b (initial a) (initial b) _ (initial-width a) (initial-width b) (initial-in-range a w.0) (initial-in-range b w.1) refl
initial-in-range (quantified_choice xs b) w = tt
initial-in-range (quantified_synchronisation xs labels b) w = each-copy (λ s. InRange b s) (width b) xs (initial b) (initial-width b) (initial-in-range b w)

pub step-in-range : (t : Tree) (g : Guards) (e : Event) (v : Variables) (r r' : Cells) → Sound t → length r ≡ width t → InRange t r → Step t g e v r r' → InRange t r'
step-in-range elementary g e v r r' w l i h = tt
step-in-range (automaton count start mark child ws) g e v r r' w l i (aut-1 a j d q) =
    in-automaton count start mark child ws a.arrow.to (initial (child a.arrow.to)) r' (w.1 a j) (initial-width (child a.arrow.to)) (initial-in-range (child a.arrow.to) (w.3 a.arrow.to)) q
step-in-range (automaton count start mark child ws) g e v r r' w l i (aut-6 s' h q) =
    in-automaton count start mark child ws (cell r) s' r' i.0 (step-width (child (cell r)) g e v _ s' (length-fit _ _) h) (step-in-range (child (cell r)) g e v _ s' (w.3 (cell r)) (length-fit _ _) i.1 h) q
step-in-range (sequence a b) g e v r r' w l i (seq-1 s' c h q) =
    let k = at-tag-0 (InRange a (part a (rest r))) (InRange b (part b (rest r))) (cell r) c i in
    subst (λ (z : Cells). InRange (sequence a b) z) (sym q) (in-room a (shared_room a b) s' (step-width a g e v _ s' (length-fit _ _) h) (omega arith) (step-in-range a g e v _ s' w.0 (length-fit _ _) k h))
step-in-range (sequence a b) g e v r r' w l i (seq-2 s' c d h q) =
    subst (λ (z : Cells). InRange (sequence a b) z) (sym q) (in-room b (shared_room a b) s' (step-width b g e v _ s' (initial-width b) h) (omega arith) (step-in-range b g e v _ s' w.1 (initial-width b) (initial-in-range b w.1) h))
step-in-range (sequence a b) g e v r r' w l i (seq-3 s' c h q) =
    let k = at-tag-1 (InRange a (part a (rest r))) (InRange b (part b (rest r))) (cell r) c i in
    subst (λ (z : Cells). InRange (sequence a b) z) (sym q) (in-room b (shared_room a b) s' (step-width b g e v _ s' (length-fit _ _) h) (omega arith) (step-in-range b g e v _ s' w.1 (length-fit _ _) k h))
step-in-range (closure b) g e v r r' w l i (clo-1 s' c h q) =
    subst (λ (z : Cells). InRange (closure b) z) (sym q) (in-room b (width b) s' (step-width b g e v _ s' (initial-width b) h) (le_refl _) (step-in-range b g e v _ s' w (initial-width b) (initial-in-range b w) h))
step-in-range (closure b) g e v r r' w l i (clo-2 s' c h q) =
    let k = at-tag-1 (Unit {0}) (InRange b (part b (rest r))) (cell r) c i in
    subst (λ (z : Cells). InRange (closure b) z) (sym q) (in-room b (width b) s' (step-width b g e v _ s' (length-fit _ _) h) (le_refl _) (step-in-range b g e v _ s' w (length-fit _ _) k h))
step-in-range (guarded guard b) g e v r r' w l i (gua-1 s' c d h q) =
    subst (λ (z : Cells). InRange (guarded guard b) z) (sym q) (in-room b (width b) s' (step-width b g e v _ s' (initial-width b) h) (le_refl _) (step-in-range b g e v _ s' w (initial-width b) (initial-in-range b w) h))
step-in-range (guarded guard b) g e v r r' w l i (gua-2 s' c h q) =
    let k = at-tag-1 (Unit {0}) (InRange b (part b (rest r))) (cell r) c i in
    subst (λ (z : Cells). InRange (guarded guard b) z) (sym q) (in-room b (width b) s' (step-width b g e v _ s' (length-fit _ _) h) (le_refl _) (step-in-range b g e v _ s' w (length-fit _ _) k h))
step-in-range (choice a b) g e v r r' w l i (cho-1 s' c h q) =
    subst (λ (z : Cells). InRange (choice a b) z) (sym q) (in-room a (shared_room a b) s' (step-width a g e v _ s' (initial-width a) h) (omega arith) (step-in-range a g e v _ s' w.0 (initial-width a) (initial-in-range a w.0) h))
step-in-range (choice a b) g e v r r' w l i (cho-2 s' c h q) =
    subst (λ (z : Cells). InRange (choice a b) z) (sym q) (in-room b (shared_room a b) s' (step-width b g e v _ s' (initial-width b) h) (omega arith) (step-in-range b g e v _ s' w.1 (initial-width b) (initial-in-range b w.1) h))
step-in-range (choice a b) g e v r r' w l i (cho-3 s' c h q) =
    let k = at-side-1 (Unit {0}) (InRange a (part a (rest r))) (InRange b (part b (rest r))) (cell r) c i in
    subst (λ (z : Cells). InRange (choice a b) z) (sym q) (in-room a (shared_room a b) s' (step-width a g e v _ s' (length-fit _ _) h) (omega arith) (step-in-range a g e v _ s' w.0 (length-fit _ _) k h))
step-in-range (choice a b) g e v r r' w l i (cho-4 s' c h q) =
    let k = at-side-2 (Unit {0}) (InRange a (part a (rest r))) (InRange b (part b (rest r))) (cell r) c i in
    subst (λ (z : Cells). InRange (choice a b) z) (sym q) (in-room b (shared_room a b) s' (step-width b g e v _ s' (length-fit _ _) h) (omega arith) (step-in-range b g e v _ s' w.1 (length-fit _ _) k h))
step-in-range (synchronisation labels a b) g e v r r' w l i (syn-1 s' d h q) =
    both-sides a b s' _ r' (step-width a g e v _ s' (length-fit _ _) h) (length-fit _ _) (step-in-range a g e v _ s' w.0 (length-fit _ _) i.0 h) i.1 q
step-in-range (synchronisation labels a b) g e v r r' w l i (syn-2 s' d h q) =
    both-sides a b _ s' r' (length-fit _ _) (step-width b g e v _ s' (length-fit _ _) h) i.0 (step-in-range b g e v _ s' w.1 (length-fit _ _) i.1 h) q
step-in-range (synchronisation labels a b) g e v r r' w l i (syn-3 s' t' d h k q) =
    both-sides a b s' t' r' (step-width a g e v _ s' (length-fit _ _) h) (step-width b g e v _ t' (length-fit _ _) k) (step-in-range a g e v _ s' w.0 (length-fit _ _) i.0 h) (step-in-range b g e v _ t' w.1 (length-fit _ _) i.1 k) q
step-in-range (quantified_choice xs b) g e v r r' w l i (qch-1 k x s' c d h q) =
    let p = value-room xs k x (width b) d in
    subst (λ (z : Cells). InRange (quantified_choice xs b) z) (sym q) (p.0, in-room b (body_room xs b) s' (step-width b g e (bound x v) _ s' (initial-width b) h) p.1 (step-in-range b g e (bound x v) _ s' w (initial-width b) (initial-in-range b w) h))
step-in-range (quantified_choice xs b) g e v r r' w l i (qch-2 k x s' c d h q) =
    let p = value-room xs k x (width b) d in
    let j = at-position (InRange b (part b (rest r))) (length xs) (cell r) k c i in
    subst (λ (z : Cells). InRange (quantified_choice xs b) z) (sym q) (p.0, in-room b (body_room xs b) s' (step-width b g e (bound x v) _ s' (length-fit _ _) h) p.1 (step-in-range b g e (bound x v) _ s' w (length-fit _ _) j h))
step-in-range (quantified_synchronisation xs labels b) g e v r r' w l i (qsy-1 d h) =
    one-each (λ s. InRange b s) (width b) (λ x. Step b g e (bound x v)) (λ x. step-width b g e (bound x v)) (λ x s s' m j k. step-in-range b g e (bound x v) s s' w m j k) xs r r' i h
step-in-range (quantified_synchronisation xs labels b) g e v r r' w l i (qsy-2 d y h) =
    all-each (λ s. InRange b s) (width b) (λ x. Step b g e (bound x v)) (λ x. step-width b g e (bound x v)) (λ x s s' m j k. step-in-range b g e (bound x v) s s' w m j k) xs r r' i h
