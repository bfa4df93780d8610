-- A part keeps its width.
use Rattle.std.proofs.Common.{◌≡◌, refl, ◌∙◌, ap, ℕ, zero, suc, ◌+◌, List, [], ◌∷◌, ◌++◌, length, drop, length-append, length-drop, arith}
use Rattle.event.specs.declared.event.Event.{Event}
use Rattle.host.specs.declared.variables.Variables.{Variables}
use Rattle.rules.specs.Trees.{Tree, elementary, automaton, sequence, closure, guarded, choice, synchronisation, quantified_choice, quantified_synchronisation, bound, Guards}
use Rattle.rules.specs.Cells.{Cells, rest, fit, times, copies, width, initial}
use Rattle.rules.specs.Rules.{Motion, Step, OneMoves, AllMove}
use Rattle.rules.specs.Rules.AutomatonRule.{aut-1, aut-6}
use Rattle.rules.specs.Rules.SequenceRule.{seq-1, seq-2, seq-3}
use Rattle.rules.specs.Rules.ClosureRule.{clo-1, clo-2}
use Rattle.rules.specs.Rules.GuardRule.{gua-1, gua-2}
use Rattle.rules.specs.Rules.ChoiceRule.{cho-1, cho-2, cho-3, cho-4}
use Rattle.rules.specs.Rules.SynchronisationRule.{syn-1, syn-2, syn-3}
use Rattle.rules.specs.Rules.QuantifiedChoiceRule.{qch-1, qch-2}
use Rattle.rules.specs.Rules.OneMoves.{this_one, later_one}
use Rattle.rules.specs.Rules.AllMove.{none_left, this_too}
use Rattle.rules.specs.Rules.QuantifiedSynchronisationRule.{qsy-1, qsy-2}

pub length-fit : (n : ℕ) (r : Cells) → length (fit n r) ≡ n
length-fit zero r = refl
length-fit (suc n) r = ap suc (length-fit n (rest r))

length-copies : (xs : List ℕ) (r : Cells) (n : ℕ) → length r ≡ n → length (copies xs r) ≡ times xs n
length-copies [] r n e = refl
length-copies (x ∷ xs) r n e = let h = length-copies xs r n e in simp length-append (omega arith)

pub initial-width : (t : Tree) → length (initial t) ≡ width t
initial-width elementary = refl
initial-width (automaton count start mark child ws) = ap suc (length-fit _ _)
initial-width (sequence a b) = ap suc (length-fit _ _)
initial-width (closure b) = ap suc (length-fit _ _)
initial-width (guarded guard b) = ap suc (length-fit _ _)
initial-width (choice a b) = ap suc (length-fit _ _)
initial-width (synchronisation labels a b) = let h = initial-width a in let k = initial-width b in simp length-append (omega arith)
initial-width (quantified_choice xs b) = ap suc (length-fit _ _)
initial-width (quantified_synchronisation xs labels b) = length-copies xs (initial b) (width b) (initial-width b)

-- a tag and n cells of room
tagged-width : (tag n : ℕ) (s r' : Cells) → r' ≡ tag ∷ fit n s → length r' ≡ suc n
tagged-width tag n s r' e = ap length e ∙ ap suc (length-fit n s)

joined-width : (s t r' : Cells) (m n : ℕ) → length s ≡ m → length t ≡ n → r' ≡ s ++ t → length r' ≡ m + n
joined-width s t r' m n p q e = omega (arith, simp length-append at (ap length e))

-- a motion keeps n cells
abbrev pub Keeps : ℕ → Motion → Type 0
Keeps n A = (r r' : Cells) → length r ≡ n → A r r' → length r' ≡ n

pub one-keeps : (n : ℕ) (B : ℕ → Motion) → ((x : ℕ) → Keeps n (B x)) → (xs : List ℕ) → Keeps (times xs n) (OneMoves n B xs)
one-keeps n B k xs r r' l (this_one {x = x} {xs = ys} s' h e) =
    joined-width _ _ r' n (times ys n) (k x _ s' (length-fit n r) h) (simp length-drop (omega arith)) e
one-keeps n B k xs r r' l (later_one {x = x} {xs = ys} q' h e) =
    joined-width _ _ r' n (times ys n) (length-fit n r) (one-keeps n B k ys (drop n r) q' (simp length-drop (omega arith)) h) e

pub all-keep : (n : ℕ) (B : ℕ → Motion) → ((x : ℕ) → Keeps n (B x)) → (xs : List ℕ) → Keeps (times xs n) (AllMove n B xs)
all-keep n B k xs r r' l (none_left e) = ap length e
all-keep n B k xs r r' l (this_too {x = x} {xs = ys} s' q' h g e) =
    joined-width _ _ r' n (times ys n) (k x _ s' (length-fit n r) h) (all-keep n B k ys (drop n r) q' (simp length-drop (omega arith)) g) e

pub step-width : (t : Tree) (g : Guards) (e : Event) (v : Variables) → Keeps (width t) (Step t g e v)
step-width elementary g e v r r' l h = absurd h
step-width (automaton count start mark child ws) g e v r r' l (aut-1 a i d q) = tagged-width _ _ _ r' q
step-width (automaton count start mark child ws) g e v r r' l (aut-6 s' h q) = tagged-width _ _ _ r' q
step-width (sequence a b) g e v r r' l (seq-1 s' c h q) = tagged-width _ _ _ r' q
step-width (sequence a b) g e v r r' l (seq-2 s' c d h q) = tagged-width _ _ _ r' q
step-width (sequence a b) g e v r r' l (seq-3 s' c h q) = tagged-width _ _ _ r' q
step-width (closure b) g e v r r' l (clo-1 s' c h q) = tagged-width _ _ _ r' q
step-width (closure b) g e v r r' l (clo-2 s' c h q) = tagged-width _ _ _ r' q
step-width (guarded guard b) g e v r r' l (gua-1 s' c d h q) = tagged-width _ _ _ r' q
step-width (guarded guard b) g e v r r' l (gua-2 s' c h q) = tagged-width _ _ _ r' q
step-width (choice a b) g e v r r' l (cho-1 s' c h q) = tagged-width _ _ _ r' q
step-width (choice a b) g e v r r' l (cho-2 s' c h q) = tagged-width _ _ _ r' q
step-width (choice a b) g e v r r' l (cho-3 s' c h q) = tagged-width _ _ _ r' q
step-width (choice a b) g e v r r' l (cho-4 s' c h q) = tagged-width _ _ _ r' q
step-width (synchronisation labels a b) g e v r r' l (syn-1 s' d h q) = joined-width _ _ r' (width a) (width b) (step-width a g e v _ _ (length-fit _ _) h) (length-fit _ _) q
step-width (synchronisation labels a b) g e v r r' l (syn-2 s' d h q) = joined-width _ _ r' (width a) (width b) (length-fit _ _) (step-width b g e v _ _ (length-fit _ _) h) q
step-width (synchronisation labels a b) g e v r r' l (syn-3 s' t' d h k q) = joined-width _ _ r' (width a) (width b) (step-width a g e v _ _ (length-fit _ _) h) (step-width b g e v _ _ (length-fit _ _) k) q
step-width (quantified_choice xs b) g e v r r' l (qch-1 k x s' c d h q) = tagged-width _ _ _ r' q
step-width (quantified_choice xs b) g e v r r' l (qch-2 k x s' c d h q) = tagged-width _ _ _ r' q
step-width (quantified_synchronisation xs labels b) g e v r r' l (qsy-1 d h) = one-keeps (width b) _ (λ x. step-width b g e (bound x v)) xs r r' l h
step-width (quantified_synchronisation xs labels b) g e v r r' l (qsy-2 d y h) = all-keep (width b) _ (λ x. step-width b g e (bound x v)) xs r r' l h
