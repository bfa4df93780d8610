-- The moves of each operator are what its rules derive, where those of its parts are.
use Rattle.std.proofs.Common.{◌≡◌, refl, ℕ, Bool, true, List, [], ◌∷◌, eqb-true, eq-eqb, sym, subst}
use Rattle.std.proofs.lemmas.Bool.{and_parts, and_from, not-true, not_from_false}
use mathlib.Core.List.{Memᴰ}
use mathlib.Core.List.Memᴰ
use Rattle.notation.specs.declared.arrow.Arrow.{Arrow}
use Rattle.event.specs.declared.event.Event.{Event}
use Rattle.host.specs.declared.variables.Variables.{Variables}
use Rattle.rules.specs.Trees.{NumberedArrow, Tree, elementary, automaton, sequence, closure, guarded, choice, synchronisation, quantified_choice, quantified_synchronisation, bound, Guards}
use Rattle.rules.specs.Cells.{Cells, cell, width}
use Rattle.rules.specs.Rules.{Motion, in_set, Leads, AutomatonRule, SequenceRule, ClosureRule, GuardRule, ChoiceRule, SynchronisationRule, QuantifiedChoiceRule, OneMoves, AllMove, QuantifiedSynchronisationRule, Step}
use Rattle.rules.specs.Rules.AutomatonRule.{aut-1, aut-6}
use Rattle.rules.specs.Rules.SequenceRule.{seq-1, seq-2, seq-3}
use Rattle.rules.specs.Rules.ClosureRule.{clo-1, clo-2}
use Rattle.rules.specs.Rules.GuardRule.{gua-1, gua-2}
use Rattle.rules.specs.Rules.ChoiceRule.{cho-1, cho-2, cho-3, cho-4}
use Rattle.rules.specs.Rules.SynchronisationRule.{syn-1, syn-2, syn-3}
use Rattle.rules.specs.Rules.QuantifiedChoiceRule.{qch-1, qch-2}
use Rattle.rules.specs.Rules.OneMoves.{this_one, later_one}
use Rattle.rules.specs.Rules.AllMove.{none_left, this_too}
use Rattle.rules.specs.Rules.QuantifiedSynchronisationRule.{qsy-1, qsy-2}
use Rattle.rules.specs.Moves.{Moves, carries, leads, automaton_moves, sequence_moves, closure_moves, guard_moves, choice_moves, synchronisation_moves, quantified_choice_moves, one_moves, all_move, quantified_synchronisation_moves, moves}
use Rattle.rules.proofs.Lists.{split, in-left, in-right, in-placed, out-placed, in-over, out-over, in-each, out-each, in-past, out-past, in-some, out-some, in-targets, out-targets, same-equal, equal-same}

-- a list of moves fits a motion: it holds what the motion allows, and nothing else
pub record Fits (m : Moves) (M : Motion) : Type 0 where
  pub sound : (r r' : Cells) → Memᴰ r' (m r) → M r r'
  pub complete : (r r' : Cells) → M r r' → Memᴰ r' (m r)

module _ {a b : Tree} {ma mb : Moves} {A B : Motion} (fa : Fits ma A) (fb : Fits mb B) where
  pub sequence-fits : Fits (sequence_moves a b ma mb) (SequenceRule a b A B)
  sequence-fits = record { sound = to; complete = fro }
    where
      to : (r r' : Cells) → Memᴰ r' (sequence_moves a b ma mb r) → SequenceRule a b A B r r'
      to r r' m =
          split _ _ m
          (λ p. let o = out-placed _ _ _ p in seq-1 o.0 (eqb-true _ _ o.1) (fa.sound _ _ o.2) o.3)
          (λ q. split _ _ q
          (λ p. let o = out-placed _ _ _ p in let t = and_parts _ _ o.1 in seq-2 o.0 (eqb-true _ _ t.0) t.1 (fb.sound _ _ o.2) o.3)
          (λ p. let o = out-placed _ _ _ p in seq-3 o.0 (eqb-true _ _ o.1) (fb.sound _ _ o.2) o.3))

      fro : (r r' : Cells) → SequenceRule a b A B r r' → Memᴰ r' (sequence_moves a b ma mb r)
      fro r r' (seq-1 s' c h e) = in-left _ _ (in-placed _ _ (eq-eqb _ _ c) (fa.complete _ _ h) e)
      fro r r' (seq-2 s' c f h e) = in-right _ _ (in-left _ _ (in-placed _ _ (and_from _ _ (eq-eqb _ _ c) f) (fb.complete _ _ h) e))
      fro r r' (seq-3 s' c h e) = in-right _ _ (in-right _ _ (in-placed _ _ (eq-eqb _ _ c) (fb.complete _ _ h) e))

  pub choice-fits : Fits (choice_moves a b ma mb) (ChoiceRule a b A B)
  choice-fits = record { sound = to; complete = fro }
    where
      to : (r r' : Cells) → Memᴰ r' (choice_moves a b ma mb r) → ChoiceRule a b A B r r'
      to r r' m =
          split _ _ m
          (λ p. let o = out-placed _ _ _ p in cho-1 o.0 (eqb-true _ _ o.1) (fa.sound _ _ o.2) o.3)
          (λ q. split _ _ q
          (λ p. let o = out-placed _ _ _ p in cho-2 o.0 (eqb-true _ _ o.1) (fb.sound _ _ o.2) o.3)
          (λ n. split _ _ n
          (λ p. let o = out-placed _ _ _ p in cho-3 o.0 (eqb-true _ _ o.1) (fa.sound _ _ o.2) o.3)
          (λ p. let o = out-placed _ _ _ p in cho-4 o.0 (eqb-true _ _ o.1) (fb.sound _ _ o.2) o.3)))

      fro : (r r' : Cells) → ChoiceRule a b A B r r' → Memᴰ r' (choice_moves a b ma mb r)
      fro r r' (cho-1 s' c h e) = in-left _ _ (in-placed _ _ (eq-eqb _ _ c) (fa.complete _ _ h) e)
      fro r r' (cho-2 s' c h e) = in-right _ _ (in-left _ _ (in-placed _ _ (eq-eqb _ _ c) (fb.complete _ _ h) e))
      fro r r' (cho-3 s' c h e) = in-right _ _ (in-right _ _ (in-left _ _ (in-placed _ _ (eq-eqb _ _ c) (fa.complete _ _ h) e)))
      fro r r' (cho-4 s' c h e) = in-right _ _ (in-right _ _ (in-right _ _ (in-placed _ _ (eq-eqb _ _ c) (fb.complete _ _ h) e)))

  pub synchronisation-fits : (w : Bool) → Fits (synchronisation_moves w a b ma mb) (SynchronisationRule w a b A B)
  synchronisation-fits w = record { sound = to; complete = fro }
    where
      to : (r r' : Cells) → Memᴰ r' (synchronisation_moves w a b ma mb r) → SynchronisationRule w a b A B r r'
      to r r' m =
          split _ _ m
          (λ p. let o = out-placed _ _ _ p in syn-1 o.0 (not-true _ o.1) (fa.sound _ _ o.2) o.3)
          (λ q. split _ _ q
          (λ p. let o = out-placed _ _ _ p in syn-2 o.0 (not-true _ o.1) (fb.sound _ _ o.2) o.3)
          (λ n. let u = out-over _ _ n in let o = out-placed _ _ _ u.2 in syn-3 u.0 o.0 o.1 (fa.sound _ _ u.1) (fb.sound _ _ o.2) o.3))

      fro : (r r' : Cells) → SynchronisationRule w a b A B r r' → Memᴰ r' (synchronisation_moves w a b ma mb r)
      fro r r' (syn-1 s' t h e) = in-left _ _ (in-placed _ _ (not_from_false _ t) (fa.complete _ _ h) e)
      fro r r' (syn-2 s' t h e) = in-right _ _ (in-left _ _ (in-placed _ _ (not_from_false _ t) (fb.complete _ _ h) e))
      fro r r' (syn-3 s' t' t h k e) = in-right _ _ (in-right _ _ (in-over _ (fa.complete _ _ h) (in-placed _ _ t (fb.complete _ _ k) e)))

module _ {b : Tree} {mb : Moves} {B : Motion} (fb : Fits mb B) where
  pub closure-fits : Fits (closure_moves b mb) (ClosureRule b B)
  closure-fits = record { sound = to; complete = fro }
    where
      to : (r r' : Cells) → Memᴰ r' (closure_moves b mb r) → ClosureRule b B r r'
      to r r' m =
          split _ _ m
          (λ p. let o = out-placed _ _ _ p in clo-1 o.0 o.1 (fb.sound _ _ o.2) o.3)
          (λ p. let o = out-placed _ _ _ p in clo-2 o.0 (eqb-true _ _ o.1) (fb.sound _ _ o.2) o.3)

      fro : (r r' : Cells) → ClosureRule b B r r' → Memᴰ r' (closure_moves b mb r)
      fro r r' (clo-1 s' t h e) = in-left _ _ (in-placed _ _ t (fb.complete _ _ h) e)
      fro r r' (clo-2 s' c h e) = in-right _ _ (in-placed _ _ (eq-eqb _ _ c) (fb.complete _ _ h) e)

  pub guard-fits : (holds : Bool) → Fits (guard_moves holds b mb) (GuardRule holds b B)
  guard-fits holds = record { sound = to; complete = fro }
    where
      to : (r r' : Cells) → Memᴰ r' (guard_moves holds b mb r) → GuardRule holds b B r r'
      to r r' m =
          split _ _ m
          (λ p. let o = out-placed _ _ _ p in let t = and_parts _ _ o.1 in gua-1 o.0 (eqb-true _ _ t.0) t.1 (fb.sound _ _ o.2) o.3)
          (λ p. let o = out-placed _ _ _ p in gua-2 o.0 (eqb-true _ _ o.1) (fb.sound _ _ o.2) o.3)

      fro : (r r' : Cells) → GuardRule holds b B r r' → Memᴰ r' (guard_moves holds b mb r)
      fro r r' (gua-1 s' c t h e) = in-left _ _ (in-placed _ _ (and_from _ _ (eq-eqb _ _ c) t) (fb.complete _ _ h) e)
      fro r r' (gua-2 s' c h e) = in-right _ _ (in-placed _ _ (eq-eqb _ _ c) (fb.complete _ _ h) e)

module _ {mb : ℕ → Moves} {B : ℕ → Motion} (fb : (x : ℕ) → Fits (mb x) (B x)) where
  pub quantified-choice-fits : (xs : List ℕ) (b : Tree) → Fits (quantified_choice_moves xs b mb) (QuantifiedChoiceRule xs b B)
  quantified-choice-fits xs b = record { sound = to; complete = fro }
    where
      to : (r r' : Cells) → Memᴰ r' (quantified_choice_moves xs b mb r) → QuantifiedChoiceRule xs b B r r'
      to r r' m =
          split _ _ m
          (λ p. let u = out-each _ _ p in let o = out-placed _ _ _ u.3 in qch-1 u.0 u.1 o.0 (eqb-true _ _ o.1) u.2 ((fb u.1).sound _ _ o.2) o.3)
          (λ p. let u = out-past _ _ p in let w = out-some _ _ u.2 in let o = out-placed _ _ _ w.2 in qch-2 u.0 w.0 o.0 u.1 w.1 ((fb w.0).sound _ _ o.2) o.3)

      fro : (r r' : Cells) → QuantifiedChoiceRule xs b B r r' → Memᴰ r' (quantified_choice_moves xs b mb r)
      fro r r' (qch-1 k x s' c g h e) = in-left _ _ (in-each _ _ k x g (in-placed _ _ (eq-eqb _ _ c) ((fb x).complete _ _ h) e))
      fro r r' (qch-2 k x s' c g h e) = in-right _ _ (in-past _ _ k c (in-some _ _ x g (in-placed _ _ refl ((fb x).complete _ _ h) e)))

  one-sound : (n : ℕ) (xs : List ℕ) (r r' : Cells) → Memᴰ r' (one_moves n mb xs r) → OneMoves n B xs r r'
  one-sound n [] r r' m = absurd (Memᴰ.not-nil m)
  one-sound n (x ∷ xs) r r' m =
      split _ _ m
      (λ p. let o = out-placed _ _ _ p in this_one o.0 ((fb x).sound _ _ o.2) o.3)
      (λ p. let o = out-placed _ _ _ p in later_one o.0 (one-sound n xs _ _ o.2) o.3)

  one-complete : (n : ℕ) (xs : List ℕ) (r r' : Cells) → OneMoves n B xs r r' → Memᴰ r' (one_moves n mb xs r)
  one-complete n xs r r' (this_one {x = x} s' h e) = in-left _ _ (in-placed _ _ refl ((fb x).complete _ _ h) e)
  one-complete n xs r r' (later_one {xs = ys} q' h e) = in-right _ _ (in-placed _ _ refl (one-complete n ys _ _ h) e)

  all-sound : (n : ℕ) (xs : List ℕ) (r r' : Cells) → Memᴰ r' (all_move n mb xs r) → AllMove n B xs r r'
  all-sound n [] r r' m = none_left (Memᴰ.eq_of_singleton m)
  all-sound n (x ∷ xs) r r' m =
      let u = out-over _ _ m in
      let o = out-placed _ _ _ u.2 in
      this_too u.0 o.0 ((fb x).sound _ _ u.1) (all-sound n xs _ _ o.2) o.3

  all-complete : (n : ℕ) (xs : List ℕ) (r r' : Cells) → AllMove n B xs r r' → Memᴰ r' (all_move n mb xs r)
  all-complete n xs r r' (none_left e) = Memᴰ.head e
  all-complete n xs r r' (this_too {x = x} {xs = ys} s' q' h k e) = in-over _ ((fb x).complete _ _ h) (in-placed _ _ refl (all-complete n ys _ _ k) e)

  pub quantified-synchronisation-fits : (w : Bool) (xs : List ℕ) (b : Tree) → Fits (quantified_synchronisation_moves w xs b mb) (QuantifiedSynchronisationRule w xs b B)
  quantified-synchronisation-fits w xs b = record { sound = to; complete = fro }
    where
      to : (r r' : Cells) → Memᴰ r' (quantified_synchronisation_moves w xs b mb r) → QuantifiedSynchronisationRule w xs b B r r'
      to r r' m =
          split _ _ m
          (λ p. let o = out-placed _ _ _ p in qsy-1 (not-true _ o.1) (subst (λ (q : Cells). OneMoves (width b) B xs r q) (sym o.3) (one-sound (width b) xs r _ o.2)))
          (λ p. let o = out-placed _ _ _ p in let t = and_parts _ _ o.1 in qsy-2 t.0 t.1 (subst (λ (q : Cells). AllMove (width b) B xs r q) (sym o.3) (all-sound (width b) xs r _ o.2)))

      fro : (r r' : Cells) → QuantifiedSynchronisationRule w xs b B r r' → Memᴰ r' (quantified_synchronisation_moves w xs b mb r)
      fro r r' (qsy-1 t h) = in-left _ _ (in-placed _ _ (not_from_false _ t) (one-complete (width b) xs r r' h) refl)
      fro r r' (qsy-2 t v h) = in-right _ _ (in-placed _ _ (and_from _ _ t v) (all-complete (width b) xs r r' h) refl)

leads-sound : (g : Guards) (e : Event) (v : Variables) (q : ℕ) (child : Tree) (s : Cells) (a : Arrow) → leads g e v q child s a ≡ true → Leads g e v q child s a
leads-sound g e v q child s a t =
    let t1 = and_parts _ _ t in
    let t2 = and_parts _ _ t1.1 in
    let t3 = and_parts _ _ t2.1 in
    let c1 = and_parts _ _ t2.0 in
    let c2 = and_parts _ _ c1.1 in
    record {
      leaves = eqb-true _ _ t1.0;
      carries = record { label = eqb-true _ _ c1.0; first = same-equal _ _ c2.0; second = same-equal _ _ c2.1 };
      allowed = t3.0;
      waited = t3.1;
    }

leads-complete : (g : Guards) (e : Event) (v : Variables) (q : ℕ) (child : Tree) (s : Cells) (a : Arrow) → Leads g e v q child s a → leads g e v q child s a ≡ true
leads-complete g e v q child s a l =
    let c = l.carries in
    let carried : carries e v a ≡ true = and_from _ _ (eq-eqb _ _ c.label) (and_from _ _ (equal-same _ _ c.first) (equal-same _ _ c.second)) in
    and_from _ _ (eq-eqb _ _ l.leaves) (and_from _ _ carried (and_from _ _ l.allowed l.waited))

module _ {mc : ℕ → Moves} {C : ℕ → Motion} (fc : (q : ℕ) → Fits (mc q) (C q)) where
  pub automaton-fits : (count : ℕ) (child : ℕ → Tree) (ws : List NumberedArrow) (g : Guards) (e : Event) (v : Variables) → Fits (automaton_moves count child ws g e v mc) (AutomatonRule count child ws g e v C)
  automaton-fits count child ws g e v = record { sound = to; complete = fro }
    where
      to : (r r' : Cells) → Memᴰ r' (automaton_moves count child ws g e v mc r) → AutomatonRule count child ws g e v C r r'
      to r r' m =
          split _ _ m
          (λ p. let o = out-targets _ _ _ p in aut-1 o.0 o.1 (leads-sound g e v _ _ _ _ o.2) o.3)
          (λ p. let o = out-placed _ _ _ p in aut-6 o.0 ((fc (cell r)).sound _ _ o.2) o.3)

      fro : (r r' : Cells) → AutomatonRule count child ws g e v C r r' → Memᴰ r' (automaton_moves count child ws g e v mc r)
      fro r r' (aut-1 a m l q) = in-left _ _ (in-targets _ _ m (leads-complete g e v _ _ _ _ l) q)
      fro r r' (aut-6 s' h q) = in-right _ _ (in-placed _ _ refl ((fc (cell r)).complete _ _ h) q)

-- the moves of every tree are what the rules derive
pub fits : (t : Tree) (g : Guards) (e : Event) (v : Variables) → Fits (moves t g e v) (Step t g e v)
fits elementary g e v = record { sound = λ r r' m. Memᴰ.not-nil m; complete = λ r r' h. absurd h }
fits (automaton count start mark child ws) g e v = automaton-fits (λ q. fits (child q) g e v) count child ws g e v
fits (sequence a b) g e v = sequence-fits (fits a g e v) (fits b g e v)
fits (closure b) g e v = closure-fits (fits b g e v)
fits (guarded guard b) g e v = guard-fits (fits b g e v) (g guard v)
fits (choice a b) g e v = choice-fits (fits a g e v) (fits b g e v)
fits (synchronisation labels a b) g e v = synchronisation-fits (fits a g e v) (fits b g e v) (in_set e.label labels)
fits (quantified_choice xs b) g e v = quantified-choice-fits (λ x. fits b g e (bound x v)) xs b
fits (quantified_synchronisation xs labels b) g e v = quantified-synchronisation-fits (λ x. fits b g e (bound x v)) (in_set e.label labels) xs b
