-- Sides of a synchronisation, and the points where readings go astray.
use Rattle.std.proofs.Common.{◌≡◌, refl, sym, ◌∙◌, ap, subst, ℕ, zero, suc, ◌+◌, Bool, true, false, ◌&&◌, ◌||◌, true≢false, ◌⊎◌, inl, inr, List, [], ◌∷◌, ◌++◌, length, drop, length-append, length-drop, le_of_suc-le-suc, not-suc-le-zero, ◌<◌, arith}
use Rattle.std.proofs.lemmas.Bool.{and_parts, and_from}
use Rattle.notation.specs.declared.node.Mark.{Mark}
use Rattle.rules.specs.Trees.{Tree, automaton, sequence, closure, guarded, choice, synchronisation, quantified_choice, quantified_synchronisation, bound}
use Rattle.rules.specs.Cells.{Cells, cell, rest, fit, width, has_value, part, tagged, initial, finished, by_mark, by_tag, by_side, all_instances}
use Rattle.rules.specs.Rules.{Motion, Step, OneMoves}
use Rattle.rules.specs.Rules.ClosureRule.{clo-1, clo-2}
use Rattle.rules.specs.Rules.GuardRule.{gua-1, gua-2}
use Rattle.rules.specs.Rules.SynchronisationRule.{syn-1, syn-2, syn-3}
use Rattle.rules.specs.Rules.OneMoves.{this_one, later_one}
use Rattle.rules.specs.Rules.QuantifiedSynchronisationRule.{qsy-1, qsy-2}
use Rattle.rules.specs.Instances.{instance_at, EveryInstanceMoves, OneInstanceMoves}
use Rattle.rules.specs.Laws.{BothSidesMove, OneSideMoves, AllInstancesMove, OneInstanceMovesAlone, NoInstanceNoMove, BothSidesFinish, EveryInstanceFinishes, UnmarkedUnfinished, ShallowFinished, DeepFinished, SequenceFinished, GuardAskedOnce, GuardFinished, ClosureStarts, ClosureRestartsOnlyFinished, FinishedClosureRestarts, ElementaryIsNotWaitedFor, ChoiceFinished, QuantifiedChoiceFinished}
use Rattle.rules.proofs.Widths.{length-fit, step-width}
use Rattle.rules.proofs.Instances.{fit-append, drop-append, fit-drop, every-out, every-in, one-out, one-in}
use Rattle.rules.proofs.InRange.{fit-exact}

no-both : (b : Bool) → b ≡ true → b ≡ false → ⊥
no-both b t f = true≢false (sym t ∙ f)

-- the two sides of cells of exact width
left-of : (a b : Tree) (s t r' : Cells) → length s ≡ width a → r' ≡ s ++ t → part a r' ≡ s
left-of a b s t r' l e = ap (fit (width a)) e ∙ fit-append (width a) s t l

right-of : (a b : Tree) (s t r' : Cells) → length s ≡ width a → length t ≡ width b → r' ≡ s ++ t → part b (drop (width a) r') ≡ t
right-of a b s t r' l k e = ap (λ (q : Cells). fit (width b) (drop (width a) q)) e ∙ ap (fit (width b)) (drop-append (width a) s t l) ∙ fit-exact (width b) t k

both-lengths : (a b : Tree) (s t r' : Cells) → length s ≡ width a → length t ≡ width b → r' ≡ s ++ t → length r' ≡ width a + width b
both-lengths a b s t r' l k e = omega (arith, simp length-append at (ap length e))

-- cells of exact width are their two sides
sides : (a b : Tree) (r' : Cells) → length r' ≡ width a + width b → r' ≡ part a r' ++ part b (drop (width a) r')
sides a b r' l =
    sym (fit-drop (width a) r' (omega arith)) ∙ ap (λ (q : Cells). fit (width a) r' ++ q) (sym (fit-exact (width b) (drop (width a) r') (simp length-drop (omega arith))))

pub both-sides-move : BothSidesMove
both-sides-move labels a b g e v r r' is = (to, fro)
  where
    Both : Type 0
    Both = (length r' ≡ width a + width b) × Step a g e v (part a r) (part a r') × Step b g e v (part b (drop (width a) r)) (part b (drop (width a) r'))

    to : Step (synchronisation labels a b) g e v r r' → Both
    to (syn-1 s' d h q) = absurd (no-both _ is d)
    to (syn-2 s' d h q) = absurd (no-both _ is d)
    to (syn-3 s' t' d h k q) =
        let l : length s' ≡ width a = step-width a g e v _ s' (length-fit _ _) h in
        let n : length t' ≡ width b = step-width b g e v _ t' (length-fit _ _) k in (
          both-lengths a b s' t' r' l n q,
          subst (λ (z : Cells). Step a g e v (part a r) z) (sym (left-of a b s' t' r' l q)) h,
          subst (λ (z : Cells). Step b g e v (part b (drop (width a) r)) z) (sym (right-of a b s' t' r' l n q)) k,
        )

    fro : Both → Step (synchronisation labels a b) g e v r r'
    fro (l, h, k) = syn-3 (part a r') (part b (drop (width a) r')) is h k (sides a b r' l)

pub one-side-moves : OneSideMoves
one-side-moves labels a b g e v r r' is = (to, fro)
  where
    Either : Type 0
    Either =
        (Step a g e v (part a r) (part a r') × (part b (drop (width a) r') ≡ part b (drop (width a) r)))
        ⊎ (Step b g e v (part b (drop (width a) r)) (part b (drop (width a) r')) × (part a r' ≡ part a r))

    to : Step (synchronisation labels a b) g e v r r' → (length r' ≡ width a + width b) × Either
    to (syn-1 s' d h q) =
        let l : length s' ≡ width a = step-width a g e v _ s' (length-fit _ _) h in
        let n : length (part b (drop (width a) r)) ≡ width b = length-fit _ _ in (
          both-lengths a b s' (part b (drop (width a) r)) r' l n q,
          inl (subst (λ (z : Cells). Step a g e v (part a r) z) (sym (left-of a b s' (part b (drop (width a) r)) r' l q)) h, right-of a b s' (part b (drop (width a) r)) r' l n q),
        )
    to (syn-2 s' d h q) =
        let l : length (part a r) ≡ width a = length-fit _ _ in
        let n : length s' ≡ width b = step-width b g e v _ s' (length-fit _ _) h in (
          both-lengths a b (part a r) s' r' l n q,
          inr (subst (λ (z : Cells). Step b g e v (part b (drop (width a) r)) z) (sym (right-of a b (part a r) s' r' l n q)) h, left-of a b (part a r) s' r' l q),
        )
    to (syn-3 s' t' d h k q) = absurd (no-both _ d is)

    fro : (length r' ≡ width a + width b) × Either → Step (synchronisation labels a b) g e v r r'
    fro (l, inl (h, stays)) = syn-1 (part a r') is h (sides a b r' l ∙ ap (λ (z : Cells). part a r' ++ z) stays)
    fro (l, inr (h, stays)) = syn-2 (part b (drop (width a) r')) is h (sides a b r' l ∙ ap (λ (z : Cells). z ++ part b (drop (width a) r')) stays)

pub all-instances-move : AllInstancesMove
all-instances-move xs labels b g e v r r' is some = (to, λ h. qsy-2 is some (every-in (width b) (λ x. Step b g e (bound x v)) xs r r' h))
  where
    to : Step (quantified_synchronisation xs labels b) g e v r r' → EveryInstanceMoves (width b) (λ x. Step b g e (bound x v)) xs r r'
    to (qsy-1 d h) = absurd (no-both _ is d)
    to (qsy-2 d y h) = every-out (width b) (λ x. Step b g e (bound x v)) (λ x. step-width b g e (bound x v)) xs r r' h

pub one-instance-moves : OneInstanceMovesAlone
one-instance-moves xs labels b g e v r r' is l = (to, λ h. qsy-1 is (one-in (width b) (λ x. Step b g e (bound x v)) xs r r' l h))
  where
    to : Step (quantified_synchronisation xs labels b) g e v r r' → OneInstanceMoves (width b) (λ x. Step b g e (bound x v)) xs r r'
    to (qsy-1 d h) = one-out (width b) (λ x. Step b g e (bound x v)) (λ x. step-width b g e (bound x v)) xs r r' l h
    to (qsy-2 d y h) = absurd (no-both _ d is)

none-moves : (n : ℕ) (B : ℕ → Motion) (xs : List ℕ) (r r' : Cells) → xs ≡ [] → OneMoves n B xs r r' → ⊥
none-moves n B xs r r' e (this_one s' h q) = absurd (omega (arith, ap length e))
none-moves n B xs r r' e (later_one q' h q) = absurd (omega (arith, ap length e))

pub no-instance-no-move : NoInstanceNoMove
no-instance-no-move labels b g e v r r' (qsy-1 d h) = none-moves (width b) (λ x. Step b g e (bound x v)) [] r r' refl h
no-instance-no-move labels b g e v r r' (qsy-2 d y h) = true≢false (sym y)

pub both-sides-finish : BothSidesFinish
both-sides-finish labels a b r = (λ h. and_parts _ _ h, λ h. and_from _ _ h.0 h.1)

all-at-each : (test : Cells → Bool) (n : ℕ) (xs : List ℕ) (r : Cells) → all_instances test n xs r ≡ true → (i : ℕ) → i < length xs → test (instance_at n i r) ≡ true
all-at-each test n [] r h i u = absurd (not-suc-le-zero u)
all-at-each test n (x ∷ xs) r h zero u = (and_parts _ _ h).0
all-at-each test n (x ∷ xs) r h (suc i) u = all-at-each test n xs (drop n r) (and_parts _ _ h).1 i (le_of_suc-le-suc u)

each-at-all : (test : Cells → Bool) (n : ℕ) (xs : List ℕ) (r : Cells) → ((i : ℕ) → i < length xs → test (instance_at n i r) ≡ true) → all_instances test n xs r ≡ true
each-at-all test n [] r h = refl
each-at-all test n (x ∷ xs) r h = and_from _ _ (h 0 (omega arith)) (each-at-all test n xs (drop n r) (λ i u. h (suc i) (omega arith)))

pub every-instance-finishes : EveryInstanceFinishes
every-instance-finishes xs labels b r = (all-at-each (λ s. finished b s) (width b) xs r, each-at-all (λ s. finished b s) (width b) xs r)

pub unmarked-unfinished : UnmarkedUnfinished
unmarked-unfinished count start mark child ws r is = ap (λ (m : Mark). by_mark m (finished (child (cell r)) (part (child (cell r)) (rest r)))) is

pub shallow-finished : ShallowFinished
shallow-finished count start mark child ws r is = ap (λ (m : Mark). by_mark m (finished (child (cell r)) (part (child (cell r)) (rest r)))) is

pub deep-finished : DeepFinished
deep-finished count start mark child ws r is = (λ h. sym by ∙ h, λ h. by ∙ h)
  where
    by : finished (automaton count start mark child ws) r ≡ finished (child (cell r)) (part (child (cell r)) (rest r))
    by = ap (λ (m : Mark). by_mark m (finished (child (cell r)) (part (child (cell r)) (rest r)))) is

pub sequence-finished : SequenceFinished
sequence-finished a b r c = (λ h. and_parts _ _ (sym by ∙ h), λ h. by ∙ and_from _ _ h.0 h.1)
  where
    by : finished (sequence a b) r ≡ (finished a (part a (rest r)) && finished b (initial b))
    by = ap (λ (k : ℕ). by_tag k (finished a (part a (rest r)) && finished b (initial b)) (finished b (part b (rest r)))) c

zero-one : (n : ℕ) → n ≡ 0 → n ≡ 1 → ⊥
zero-one n p q = absurd (omega arith)

pub guard-asked-once : GuardAskedOnce
guard-asked-once guard b g e v r r' c = (to, λ h. gua-2 h.0 c h.1 h.2)
  where
    to : Step (guarded guard b) g e v r r' → (s' : Cells) × Step b g e v (part b (rest r)) s' × (r' ≡ tagged (width b) 1 s')
    to (gua-1 s' d y h q) = absurd (zero-one _ d c)
    to (gua-2 s' d h q) = (s', h, q)

pub guard-finished : GuardFinished
guard-finished guard b r c = (λ h. sym by ∙ h, λ h. by ∙ h)
  where
    by : finished (guarded guard b) r ≡ finished b (initial b)
    by = ap (λ (k : ℕ). by_tag k (finished b (initial b)) (finished b (part b (rest r)))) c

closure-done : (b : Tree) (r : Cells) (x : Bool) → finished b (part b (rest r)) ≡ x → cell r ≡ 1 → finished (closure b) r ≡ x
closure-done b r x f c = ap (λ (k : ℕ). by_tag k true (finished b (part b (rest r)))) c ∙ f

pub closure-starts : ClosureStarts
closure-starts b g e v r r' c = (to, λ h. clo-1 h.0 (ap (λ (k : ℕ). by_tag k true (finished b (part b (rest r)))) c) h.1 h.2)
  where
    to : Step (closure b) g e v r r' → (s' : Cells) × Step b g e v (initial b) s' × (r' ≡ tagged (width b) 1 s')
    to (clo-1 s' d h q) = (s', h, q)
    to (clo-2 s' d h q) = absurd (zero-one _ c d)

pub closure-goes-on : ClosureRestartsOnlyFinished
closure-goes-on b g e v r r' c f = (to, λ h. clo-2 h.0 c h.1 h.2)
  where
    to : Step (closure b) g e v r r' → (s' : Cells) × Step b g e v (part b (rest r)) s' × (r' ≡ tagged (width b) 1 s')
    to (clo-1 s' d h q) = absurd (no-both _ d (closure-done b r false f c))
    to (clo-2 s' d h q) = (s', h, q)

pub closure-restarts : FinishedClosureRestarts
closure-restarts b g e v r s' c f h = clo-1 s' (closure-done b r true f c) h refl

pub elementary-not-waited : ElementaryIsNotWaitedFor
elementary-not-waited true s = refl
elementary-not-waited false s = refl

or-parts : (x y : Bool) → x || y ≡ true → (x ≡ true) ⊎ (y ≡ true)
or-parts true y h = inl refl
or-parts false y h = inr h

or-from : (x y : Bool) → (x ≡ true) ⊎ (y ≡ true) → x || y ≡ true
or-from true y h = refl
or-from false y (inl h) = absurd (true≢false (sym h))
or-from false y (inr h) = h

pub choice-finished : ChoiceFinished
choice-finished a b r c = (λ h. or-parts _ _ (sym by ∙ h), λ h. by ∙ or-from _ _ h)
  where
    by : finished (choice a b) r ≡ (finished a (initial a) || finished b (initial b))
    by = ap (λ (k : ℕ). by_side k (finished a (initial a) || finished b (initial b)) (finished a (part a (rest r))) (finished b (part b (rest r)))) c

pub quantified-choice-finished : QuantifiedChoiceFinished
quantified-choice-finished xs b r c y = (λ h. sym by ∙ h, λ h. by ∙ h)
  where
    by : finished (quantified_choice xs b) r ≡ finished b (initial b)
    by = ap (λ (k : ℕ). by_tag k (has_value xs && finished b (initial b)) (finished b (part b (rest r)))) c ∙ ap (λ (x : Bool). x && finished b (initial b)) y
