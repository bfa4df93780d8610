-- Where guards say yes to more, whatever moved still moves.
use Rattle.std.proofs.Common.{◌≡◌, refl, ◌∙◌, sym, ℕ, Bool, true, false, List, Some, None, Option, true≢false}
use Rattle.event.specs.declared.event.Event.{Event}
use Rattle.host.specs.declared.variables.Variables.{Variables}
use Rattle.rules.specs.Trees.{Tree, elementary, automaton, sequence, closure, guarded, choice, synchronisation, quantified_choice, quantified_synchronisation, no_variables, bound, Guards, guard_holds}
use Rattle.rules.specs.Cells.{Cells, cell, width}
use Rattle.rules.specs.Rules.{Motion, Step, OneMoves, AllMove}
use Rattle.rules.specs.Rules.AutomatonRule.{aut-1, aut-6}
use Rattle.rules.specs.Rules.SequenceRule.{seq-1, seq-2, seq-3}
use Rattle.rules.specs.Rules.ClosureRule.{clo-1, clo-2}
use Rattle.rules.specs.Rules.GuardRule.{gua-1, gua-2}
use Rattle.rules.specs.Rules.ChoiceRule.{cho-1, cho-2, cho-3, cho-4}
use Rattle.rules.specs.Rules.SynchronisationRule.{syn-1, syn-2, syn-3}
use Rattle.rules.specs.Rules.QuantifiedChoiceRule.{qch-1, qch-2}
use Rattle.rules.specs.Rules.OneMoves.{this_one, later_one}
use Rattle.rules.specs.Rules.AllMove.{none_left, this_too}
use Rattle.rules.specs.Rules.QuantifiedSynchronisationRule.{qsy-1, qsy-2}
use Rattle.rules.specs.Candidates.{some_moves}
use Rattle.rules.proofs.Candidates.{some-move, moved-some}

-- what moves one or all of the instances moves them by any motion that allows as much
module _ (n : ℕ) (B C : ℕ → Motion) (f : (x : ℕ) (r r' : Cells) → B x r r' → C x r r') where
  one-too : (xs : List ℕ) (r r' : Cells) → OneMoves n B xs r r' → OneMoves n C xs r r'
  one-too xs r r' (this_one s' h q) = this_one s' (f _ _ s' h) q
  one-too xs r r' (later_one {xs = ys} q' h q) = later_one q' (one-too ys _ q' h) q

  all-too : (xs : List ℕ) (r r' : Cells) → AllMove n B xs r r' → AllMove n C xs r r'
  all-too xs r r' (none_left q) = none_left q
  all-too xs r r' (this_too {xs = ys} s' q' h k q) = this_too s' q' (f _ _ s' h) (all-too ys _ q' k) q

module _ (g g' : Guards) (more : (guard : ℕ) (v : Variables) → g guard v ≡ true → g' guard v ≡ true) where
  still-holds : (guard : Option ℕ) (v : Variables) → guard_holds g guard v ≡ true → guard_holds g' guard v ≡ true
  still-holds None v h = refl
  still-holds (Some guard) v h = more guard v h

  pub still-moves : (t : Tree) (e : Event) (v : Variables) (r r' : Cells) → Step t g e v r r' → Step t g' e v r r'
  still-moves elementary e v r r' h = h
  still-moves (automaton count start mark child ws) e v r r' (aut-1 a i l q) = aut-1 a i (record { leaves = l.leaves; carries = l.carries; allowed = still-holds a.arrow.guard v l.allowed; waited = l.waited }) q
  still-moves (automaton count start mark child ws) e v r r' (aut-6 s' h q) = aut-6 s' (still-moves (child (cell r)) e v _ s' h) q
  still-moves (sequence a b) e v r r' (seq-1 s' c h q) = seq-1 s' c (still-moves a e v _ s' h) q
  still-moves (sequence a b) e v r r' (seq-2 s' c d h q) = seq-2 s' c d (still-moves b e v _ s' h) q
  still-moves (sequence a b) e v r r' (seq-3 s' c h q) = seq-3 s' c (still-moves b e v _ s' h) q
  still-moves (closure b) e v r r' (clo-1 s' c h q) = clo-1 s' c (still-moves b e v _ s' h) q
  still-moves (closure b) e v r r' (clo-2 s' c h q) = clo-2 s' c (still-moves b e v _ s' h) q
  still-moves (guarded guard b) e v r r' (gua-1 s' c d h q) = gua-1 s' c (more guard v d) (still-moves b e v _ s' h) q
  still-moves (guarded guard b) e v r r' (gua-2 s' c h q) = gua-2 s' c (still-moves b e v _ s' h) q
  still-moves (choice a b) e v r r' (cho-1 s' c h q) = cho-1 s' c (still-moves a e v _ s' h) q
  still-moves (choice a b) e v r r' (cho-2 s' c h q) = cho-2 s' c (still-moves b e v _ s' h) q
  still-moves (choice a b) e v r r' (cho-3 s' c h q) = cho-3 s' c (still-moves a e v _ s' h) q
  still-moves (choice a b) e v r r' (cho-4 s' c h q) = cho-4 s' c (still-moves b e v _ s' h) q
  still-moves (synchronisation labels a b) e v r r' (syn-1 s' d h q) = syn-1 s' d (still-moves a e v _ s' h) q
  still-moves (synchronisation labels a b) e v r r' (syn-2 s' d h q) = syn-2 s' d (still-moves b e v _ s' h) q
  still-moves (synchronisation labels a b) e v r r' (syn-3 s' t' d h k q) = syn-3 s' t' d (still-moves a e v _ s' h) (still-moves b e v _ t' k) q
  still-moves (quantified_choice xs b) e v r r' (qch-1 k x s' c d h q) = qch-1 k x s' c d (still-moves b e (bound x v) _ s' h) q
  still-moves (quantified_choice xs b) e v r r' (qch-2 k x s' c d h q) = qch-2 k x s' c d (still-moves b e (bound x v) _ s' h) q
  still-moves (quantified_synchronisation xs labels b) e v r r' (qsy-1 d h) =
      qsy-1 d (one-too (width b) (λ x. Step b g e (bound x v)) (λ x. Step b g' e (bound x v)) (λ x s s' k. still-moves b e (bound x v) s s' k) xs r r' h)
  still-moves (quantified_synchronisation xs labels b) e v r r' (qsy-2 d y h) =
      qsy-2 d y (all-too (width b) (λ x. Step b g e (bound x v)) (λ x. Step b g' e (bound x v)) (λ x s s' k. still-moves b e (bound x v) s s' k) xs r r' h)

  pub some-still-move : (t : Tree) (e : Event) (l : List Cells) → some_moves t g e l ≡ true → some_moves t g' e l ≡ true
  some-still-move t e l h = let o = moved-some t g e l h in some-move t g' e l o.0 o.2.0 o.1 (still-moves t e no_variables o.0 o.2.0 o.2.1)

-- what would not move if every guard said yes does not move
pub none-moves : (t : Tree) (g : Guards) (e : Event) (l : List Cells) → some_moves t (λ guard v. true) e l ≡ false → some_moves t g e l ≡ false
none-moves t g e l h = at (some_moves t g e l) refl
  where
    at : (b : Bool) → some_moves t g e l ≡ b → some_moves t g e l ≡ false
    at true is = absurd (true≢false (sym (some-still-move g (λ guard v. true) (λ guard v k. refl) t e l is) ∙ h))
    at false is = is
