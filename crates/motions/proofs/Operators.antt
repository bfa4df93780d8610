-- The rules of each operator are the ways that it is made of.
use Rattle.std.proofs.Common.{◌≡◌, refl, sym, ◌∙◌, subst, ℕ, zero, suc, ◌+◌, Bool, true, false, not, ◌&&◌, ◌==◌, true≢false, inl, inr, List, [], ◌∷◌, drop, Some, None, eqb-true, eq-eqb, zero-add, arith}
use Rattle.std.specs.List.{slice_get}
use Rattle.std.proofs.lemmas.Bool.{and_parts, and_from, not_from_false}
use Rattle.std.proofs.lemmas.Option.{none-some}
use Rattle.event.specs.declared.event.Event.{Event}
use Rattle.host.specs.declared.variables.Variables.{Variables}
use Rattle.rules.specs.Trees.{NumberedArrow, Tree, closure, Guards}
use Rattle.rules.specs.Cells.{Cells, cell, rest, fit, width, child_room, shared_room, body_room, has_value, part, initial, finished}
use Rattle.rules.specs.Rules.{Motion, AutomatonRule, SequenceRule, ClosureRule, GuardRule, ChoiceRule, SynchronisationRule, QuantifiedChoiceRule, QuantifiedSynchronisationRule, OneMoves, AllMove}
use Rattle.rules.specs.Rules.AutomatonRule.{aut-1, aut-6}
use Rattle.rules.specs.Rules.SequenceRule.{seq-1, seq-2, seq-3}
use Rattle.rules.specs.Rules.ClosureRule.{clo-1, clo-2}
use Rattle.rules.specs.Rules.GuardRule.{gua-1, gua-2}
use Rattle.rules.specs.Rules.ChoiceRule.{cho-1, cho-2, cho-3, cho-4}
use Rattle.rules.specs.Rules.SynchronisationRule.{syn-1, syn-2, syn-3}
use Rattle.rules.specs.Rules.QuantifiedChoiceRule.{qch-1, qch-2}
use Rattle.rules.specs.Rules.OneMoves.{this_one, later_one}
use Rattle.rules.specs.Rules.AllMove.{none_left, this_too}
use Rattle.rules.specs.Rules.QuantifiedSynchronisationRule.{qsy-1, qsy-2}
use Rattle.motions.specs.Ways.{Way, Alike, If, Either, Tagged, Left, Right, Joined, Chosen, Resumed, Led}

not-true-false : (b : Bool) → not b ≡ true → b ≡ false
not-true-false true e = absurd (true≢false (sym e))
not-true-false false e = refl

-- a sequence: its first part moves, or is finished while the second starts, or the second moves
abbrev pub SequenceWays : Tree → Tree → Motion → Motion → Cells → Way
SequenceWays a b A B r =
    Either (If (cell r == 0) (Tagged (shared_room a b) 0 (A (part a (rest r)))))
    (Either (If (cell r == 0 && finished a (part a (rest r))) (Tagged (shared_room a b) 1 (B (initial b))))
    (If (cell r == 1) (Tagged (shared_room a b) 1 (B (part b (rest r))))))

pub sequence-ways : (a b : Tree) (A B : Motion) (r : Cells) → Alike (SequenceRule a b A B r) (SequenceWays a b A B r)
sequence-ways a b A B r = record { to = to; fro = fro }
  where
    to : (s : Cells) → SequenceRule a b A B r s → SequenceWays a b A B r s
    to s (seq-1 s' c h q) = inl (eq-eqb _ _ c, (s', h, q))
    to s (seq-2 s' c f h q) = inr (inl (and_from _ _ (eq-eqb _ _ c) f, (s', h, q)))
    to s (seq-3 s' c h q) = inr (inr (eq-eqb _ _ c, (s', h, q)))

    fro : (s : Cells) → SequenceWays a b A B r s → SequenceRule a b A B r s
    fro s (inl (c, w)) = seq-1 w.0 (eqb-true _ _ c) w.1 w.2
    fro s (inr (inl (c, w))) = let p = and_parts _ _ c in seq-2 w.0 (eqb-true _ _ p.0) p.1 w.1 w.2
    fro s (inr (inr (c, w))) = seq-3 w.0 (eqb-true _ _ c) w.1 w.2

-- a closure: it is finished and its body starts, or the body moves
abbrev pub ClosureWays : Tree → Motion → Cells → Way
ClosureWays b B r =
    Either (If (finished (closure b) r) (Tagged (width b) 1 (B (initial b))))
    (If (cell r == 1) (Tagged (width b) 1 (B (part b (rest r)))))

pub closure-ways : (b : Tree) (B : Motion) (r : Cells) → Alike (ClosureRule b B r) (ClosureWays b B r)
closure-ways b B r = record { to = to; fro = fro }
  where
    to : (s : Cells) → ClosureRule b B r s → ClosureWays b B r s
    to s (clo-1 s' f h q) = inl (f, (s', h, q))
    to s (clo-2 s' c h q) = inr (eq-eqb _ _ c, (s', h, q))

    fro : (s : Cells) → ClosureWays b B r s → ClosureRule b B r s
    fro s (inl (f, w)) = clo-1 w.0 f w.1 w.2
    fro s (inr (c, w)) = clo-2 w.0 (eqb-true _ _ c) w.1 w.2

-- a guard: it holds and its body starts, or the body moves
abbrev pub GuardWays : Bool → Tree → Motion → Cells → Way
GuardWays holds b B r =
    Either (If (cell r == 0 && holds) (Tagged (width b) 1 (B (initial b))))
    (If (cell r == 1) (Tagged (width b) 1 (B (part b (rest r)))))

pub guard-ways : (holds : Bool) (b : Tree) (B : Motion) (r : Cells) → Alike (GuardRule holds b B r) (GuardWays holds b B r)
guard-ways holds b B r = record { to = to; fro = fro }
  where
    to : (s : Cells) → GuardRule holds b B r s → GuardWays holds b B r s
    to s (gua-1 s' c d h q) = inl (and_from _ _ (eq-eqb _ _ c) d, (s', h, q))
    to s (gua-2 s' c h q) = inr (eq-eqb _ _ c, (s', h, q))

    fro : (s : Cells) → GuardWays holds b B r s → GuardRule holds b B r s
    fro s (inl (c, w)) = let p = and_parts _ _ c in gua-1 w.0 (eqb-true _ _ p.0) p.1 w.1 w.2
    fro s (inr (c, w)) = gua-2 w.0 (eqb-true _ _ c) w.1 w.2

-- a choice: either side starts, or the one that is chosen moves
abbrev pub ChoiceWays : Tree → Tree → Motion → Motion → Cells → Way
ChoiceWays a b A B r =
    Either (If (cell r == 0) (Tagged (shared_room a b) 1 (A (initial a))))
    (Either (If (cell r == 0) (Tagged (shared_room a b) 2 (B (initial b))))
    (Either (If (cell r == 1) (Tagged (shared_room a b) 1 (A (part a (rest r)))))
    (If (cell r == 2) (Tagged (shared_room a b) 2 (B (part b (rest r)))))))

pub choice-ways : (a b : Tree) (A B : Motion) (r : Cells) → Alike (ChoiceRule a b A B r) (ChoiceWays a b A B r)
choice-ways a b A B r = record { to = to; fro = fro }
  where
    to : (s : Cells) → ChoiceRule a b A B r s → ChoiceWays a b A B r s
    to s (cho-1 s' c h q) = inl (eq-eqb _ _ c, (s', h, q))
    to s (cho-2 s' c h q) = inr (inl (eq-eqb _ _ c, (s', h, q)))
    to s (cho-3 s' c h q) = inr (inr (inl (eq-eqb _ _ c, (s', h, q))))
    to s (cho-4 s' c h q) = inr (inr (inr (eq-eqb _ _ c, (s', h, q))))

    fro : (s : Cells) → ChoiceWays a b A B r s → ChoiceRule a b A B r s
    fro s (inl (c, w)) = cho-1 w.0 (eqb-true _ _ c) w.1 w.2
    fro s (inr (inl (c, w))) = cho-2 w.0 (eqb-true _ _ c) w.1 w.2
    fro s (inr (inr (inl (c, w)))) = cho-3 w.0 (eqb-true _ _ c) w.1 w.2
    fro s (inr (inr (inr (c, w)))) = cho-4 w.0 (eqb-true _ _ c) w.1 w.2

-- a synchronisation: either side moves alone, or both together
abbrev pub SynchronisationWays : Bool → Tree → Tree → Motion → Motion → Cells → Way
SynchronisationWays together a b A B r =
    Either (If (not together) (Left (A (part a r)) (part b (drop (width a) r))))
    (Either (If (not together) (Right (part a r) (B (part b (drop (width a) r)))))
    (If together (Joined (A (part a r)) (B (part b (drop (width a) r))))))

pub synchronisation-ways : (together : Bool) (a b : Tree) (A B : Motion) (r : Cells) → Alike (SynchronisationRule together a b A B r) (SynchronisationWays together a b A B r)
synchronisation-ways together a b A B r = record { to = to; fro = fro }
  where
    to : (s : Cells) → SynchronisationRule together a b A B r s → SynchronisationWays together a b A B r s
    to s (syn-1 s' d h q) = inl (not_from_false together d, (s', h, q))
    to s (syn-2 s' d h q) = inr (inl (not_from_false together d, (s', h, q)))
    to s (syn-3 s' t' d h k q) = inr (inr (d, (s', t', h, k, q)))

    fro : (s : Cells) → SynchronisationWays together a b A B r s → SynchronisationRule together a b A B r s
    fro s (inl (d, w)) = syn-1 w.0 (not-true-false together d) w.1 w.2
    fro s (inr (inl (d, w))) = syn-2 w.0 (not-true-false together d) w.1 w.2
    fro s (inr (inr (d, w))) = syn-3 w.0 w.1 d w.2 w.3 w.4

-- a quantified choice: the body starts under some value, or moves under the one that is chosen
abbrev pub QuantifiedChoiceWays : List ℕ → Tree → (ℕ → Motion) → Cells → Way
QuantifiedChoiceWays xs b B r =
    Either (If (cell r == 0) (Chosen (body_room xs b) 0 (λ x. B x (initial b)) xs))
    (Resumed (body_room xs b) (λ x. B x (part b (rest r))) xs (cell r))

pub quantified-choice-ways : (xs : List ℕ) (b : Tree) (B : ℕ → Motion) (r : Cells) → Alike (QuantifiedChoiceRule xs b B r) (QuantifiedChoiceWays xs b B r)
quantified-choice-ways xs b B r = record { to = to; fro = fro }
  where
    to : (s : Cells) → QuantifiedChoiceRule xs b B r s → QuantifiedChoiceWays xs b B r s
    to s (qch-1 k x s' c e h q) = inl (eq-eqb _ _ c, (k, x, e, (s', h, rw zero-add q)))
    to s (qch-2 k x s' c e h q) = inr (k, x, c, e, (s', h, q))

    fro : (s : Cells) → QuantifiedChoiceWays xs b B r s → QuantifiedChoiceRule xs b B r s
    fro s (inl (c, w)) = qch-1 w.0 w.1 w.3.0 (eqb-true _ _ c) w.2 w.3.1 (rw zero-add at w.3.2)
    fro s (inr w) = qch-2 w.0 w.1 w.4.0 w.2 w.3 w.4.1 w.4.2

-- a quantified synchronisation: one instance moves, or all together
abbrev pub QuantifiedSynchronisationWays : Bool → List ℕ → Tree → (ℕ → Motion) → Cells → Way
QuantifiedSynchronisationWays together xs b B r = Either (If (not together) (OneMoves (width b) B xs r)) (If (together && has_value xs) (AllMove (width b) B xs r))

pub quantified-synchronisation-ways : (together : Bool) (xs : List ℕ) (b : Tree) (B : ℕ → Motion) (r : Cells) → Alike (QuantifiedSynchronisationRule together xs b B r) (QuantifiedSynchronisationWays together xs b B r)
quantified-synchronisation-ways together xs b B r = record { to = to; fro = fro }
  where
    to : (s : Cells) → QuantifiedSynchronisationRule together xs b B r s → QuantifiedSynchronisationWays together xs b B r s
    to s (qsy-1 d h) = inl (not_from_false together d, h)
    to s (qsy-2 d y h) = inr (and_from _ _ d y, h)

    fro : (s : Cells) → QuantifiedSynchronisationWays together xs b B r s → QuantifiedSynchronisationRule together xs b B r s
    fro s (inl (d, h)) = qsy-1 (not-true-false together d) h
    fro s (inr (d, h)) = let p = and_parts _ _ d in qsy-2 p.0 p.1 h

-- an automaton: an arrow leads out of the present state, or the child of that state moves
abbrev pub AutomatonWays : ℕ → (ℕ → Tree) → List NumberedArrow → Guards → Event → Variables → (ℕ → Motion) → Cells → Way
AutomatonWays count child arrows g e v C r =
    Either (Led count child arrows g e v r) (Tagged (child_room count child) (cell r) (C (cell r) (part (child (cell r)) (rest r))))

pub automaton-ways : (count : ℕ) (child : ℕ → Tree) (arrows : List NumberedArrow) (g : Guards) (e : Event) (v : Variables) (C : ℕ → Motion) (r : Cells)
    → Alike (AutomatonRule count child arrows g e v C r) (AutomatonWays count child arrows g e v C r)
automaton-ways count child arrows g e v C r = record { to = to; fro = fro }
  where
    to : (s : Cells) → AutomatonRule count child arrows g e v C r s → AutomatonWays count child arrows g e v C r s
    to s (aut-1 a m d q) = inl (a, m, d, q)
    to s (aut-6 s' h q) = inr (s', h, q)

    fro : (s : Cells) → AutomatonWays count child arrows g e v C r s → AutomatonRule count child arrows g e v C r s
    fro s (inl w) = aut-1 w.0 w.1 w.2 w.3
    fro s (inr w) = aut-6 w.0 w.1 w.2

-- no instance, no move of one
pub one-none : (n : ℕ) (B : ℕ → Motion) (r r' : Cells) → OneMoves n B [] r r' → ⊥
one-none n B r r' h = elim h [ ]

-- of instances one moves: the first one, or one of the others
pub one-ways : (n : ℕ) (B : ℕ → Motion) (x : ℕ) (xs : List ℕ) (r : Cells)
    → Alike (OneMoves n B (x ∷ xs) r) (Either (Left (B x (fit n r)) (drop n r)) (Right (fit n r) (OneMoves n B xs (drop n r))))
one-ways n B x xs r = record { to = to; fro = fro }
  where
    to : (s : Cells) → OneMoves n B (x ∷ xs) r s → Either (Left (B x (fit n r)) (drop n r)) (Right (fit n r) (OneMoves n B xs (drop n r))) s
    to s (this_one s' h q) = inl (s', h, q)
    to s (later_one q' h q) = inr (q', h, q)

    fro : (s : Cells) → Either (Left (B x (fit n r)) (drop n r)) (Right (fit n r) (OneMoves n B xs (drop n r))) s → OneMoves n B (x ∷ xs) r s
    fro s (inl w) = this_one w.0 w.1 w.2
    fro s (inr w) = later_one w.0 w.1 w.2

-- no instance: all of them move to no cells
pub all-none : (n : ℕ) (B : ℕ → Motion) (r : Cells) → Alike (AllMove n B [] r) (λ r'. r' ≡ [])
all-none n B r = record { to = to; fro = λ s e. none_left e }
  where
    to : (s : Cells) → AllMove n B [] r s → s ≡ []
    to s (none_left e) = e

-- all instances move: the first one, and all of the others
pub all-ways : (n : ℕ) (B : ℕ → Motion) (x : ℕ) (xs : List ℕ) (r : Cells)
    → Alike (AllMove n B (x ∷ xs) r) (Joined (B x (fit n r)) (AllMove n B xs (drop n r)))
all-ways n B x xs r = record { to = to; fro = λ s w. this_too w.0 w.1 w.2 w.3 w.4 }
  where
    to : (s : Cells) → AllMove n B (x ∷ xs) r s → Joined (B x (fit n r)) (AllMove n B xs (drop n r)) s
    to s (this_too s' q' h k q) = (s', q', h, k, q)

-- no value, none to choose
pub chosen-none : (m j : ℕ) (P : ℕ → Way) (s : Cells) → Chosen m j P [] s → ⊥
chosen-none m j P s w = none-some w.1 w.2

-- the first value is chosen, or one of the others
pub chosen-ways : (m j : ℕ) (P : ℕ → Way) (x : ℕ) (xs : List ℕ)
    → Alike (Chosen m j P (x ∷ xs)) (Either (Tagged m (suc j) (P x)) (Chosen m (suc j) P xs))
chosen-ways m j P x xs = record { to = λ s w. to s w.0 w.1 w.2 w.3; fro = fro }
  where
    to : (s : Cells) (k y : ℕ) → slice_get (x ∷ xs) k ≡ Some y → Tagged m (suc (j + k)) (P y) s → Either (Tagged m (suc j) (P x)) (Chosen m (suc j) P xs) s
    to s zero y e t =
        let q : x ≡ y = cc in
        let t' : Tagged m (suc j) (P y) s = subst (λ (i : ℕ). Tagged m (suc i) (P y) s) (omega arith) t in
        inl (subst (λ (z : ℕ). Tagged m (suc j) (P z) s) (sym q) t')
    to s (suc k) y e t = inr (k, y, e, subst (λ (i : ℕ). Tagged m (suc i) (P y) s) (omega arith) t)

    fro : (s : Cells) → Either (Tagged m (suc j) (P x)) (Chosen m (suc j) P xs) s → Chosen m j P (x ∷ xs) s
    fro s (inl t) = (0, x, refl, subst (λ (i : ℕ). Tagged m (suc i) (P x) s) (omega arith) t)
    fro s (inr w) = (suc w.0, w.1, w.2, subst (λ (i : ℕ). Tagged m (suc i) (P w.1) s) (omega arith) w.3)

-- the tag 0 is no value's
pub resumed-zero : (m : ℕ) (P : ℕ → Way) (xs : List ℕ) (tag : ℕ) (s : Cells) → tag ≡ 0 → Resumed m P xs tag s → ⊥
resumed-zero m P xs tag s z w = let e = w.2 in omega arith

-- the tag of a value resumes under it
pub resumed-at : (m : ℕ) (P : ℕ → Way) (xs : List ℕ) (tag k x : ℕ) → tag ≡ suc k → slice_get xs k ≡ Some x → Alike (Resumed m P xs tag) (Tagged m (suc k) (P x))
resumed-at m P xs tag k x t e = record { to = to; fro = λ s w. (k, x, t, e, w) }
  where
    to : (s : Cells) → Resumed m P xs tag s → Tagged m (suc k) (P x) s
    to s (j, y, u, f, w) =
        let p : j ≡ k = omega arith in
        let f' : slice_get xs k ≡ Some y = subst (λ (i : ℕ). slice_get xs i ≡ Some y) p f in
        let q : y ≡ x = cc in
        subst (λ (i : ℕ). Tagged m (suc i) (P x) s) p (subst (λ (z : ℕ). Tagged m (suc j) (P z) s) q w)

-- a tag past the values is none's
pub resumed-past : (m : ℕ) (P : ℕ → Way) (xs : List ℕ) (tag k : ℕ) (s : Cells) → tag ≡ suc k → slice_get xs k ≡ None → Resumed m P xs tag s → ⊥
resumed-past m P xs tag k s t e (j, y, u, f, w) =
    let p : j ≡ k = omega arith in
    let f' : slice_get xs k ≡ Some y = subst (λ (i : ℕ). slice_get xs i ≡ Some y) p f in
    none-some y (sym e ∙ f')
