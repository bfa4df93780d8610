-- An event that some arrow below a node carries, under variables that can be in scope there, is a candidate.
use Rattle.std.proofs.Common.{◌≡◌, refl, sym, ◌∙◌, ap, ap₂, subst, ℕ, zero, suc, ◌-◌, ◌<◌, ⊎_elim, List, [], ◌∷◌, length, Option, Some, None, arith}
use Rattle.std.proofs.lemmas.Bool.{cases_lt}
use Rattle.std.proofs.lemmas.Option.{none-some, slice_get-get_or}
use Rattle.std.specs.List.{slice_get}
use mathlib.Core.List.{Memᴰ}
use mathlib.Core.List.Memᴰ
use Rattle.event.specs.Forms.{InForm}
use Rattle.event.specs.declared.event.Event.{Event}
use Rattle.host.specs.declared.variables.Variables.{Variables}
use Rattle.notation.specs.Parts.{blank_arrow}
use Rattle.notation.specs.declared.node.Node.{Node}
use Rattle.notation.specs.declared.node.Node.TheVariants.{Closure, Automaton, Sequence, Guard, Choice, Synchronisation, QuantifiedChoice, QuantifiedSynchronisation}
use Rattle.procedure.specs.Procedures.{drawing}
use Rattle.rules.specs.Trees.{NumberedArrow, Tree, elementary, no_variables, bound_under, bound}
use Rattle.rules.specs.Rules.{Carries}
use Rattle.rules.specs.Growing.{Values, arrows_of, child_tree, state_of, node_tree_if, tree_within, tree_of}
use Rattle.rules.specs.Candidates.{Carried}
use Rattle.rules.proofs.Growing.{arrow-of}
use Rattle.rules.proofs.Candidates.{step-carried, carried-event}
use Rattle.diagram.specs.Valued.{values_of}
use Rattle.diagram.specs.Plans.{nodes_of, arrows_in, tree_at}
use Rattle.diagram.specs.Scopes.{given, variable_at, variables_of, variables_at, positions_of, typed_under, binders_at}
use Rattle.diagram.specs.Opening.{Opens, Above}
use Rattle.diagram.specs.Carrying.{event_under, candidate_of, outer_positions_of, inner_positions_of, outer_positions_at, inner_positions_at, IsCandidate, CandidatesAreComplete, CandidatesAreAtPositions}
use Rattle.diagram.specs.declared.binders.Binders.{Binders}
use Rattle.diagram.specs.declared.diagram.Diagram.{Diagram}
use Rattle.diagram.proofs.Opens.{opens, above}
use Rattle.diagram.proofs.Short.{outer-past, inner-past, no-candidate-outer, no-candidate-inner}

-- two positions at which these are the variables under some binders
record Placed (values : Values) (b : Binders) (v : Variables) : Type 0 where
  pub outer : ℕ
  pub inner : ℕ
  pub is : variables_at values b outer inner ≡ Some v

place-of : (x : ℕ) (xs : List ℕ) → Memᴰ x xs → (k : ℕ) × (slice_get xs k ≡ Some x)
place-of x [] m = absurd (Memᴰ.not-nil m)
place-of x (y ∷ xs) m = ⊎_elim (λ e. (zero, ap Some (sym e))) (λ n. let k = place-of x xs n in (suc k.0, k.1)) (Memᴰ.cases_cons m)

outer-of : (p q : Option (Option ℕ)) (v : Variables) → variables_of p q ≡ Some v → p ≡ Some v.outer
outer-of None q v e = absurd (none-some v e)
outer-of (Some x) None v e = absurd (none-some v e)
outer-of (Some x) (Some y) v e = let is : record { outer = x; inner = y } ≡ v = cc in ap (λ (w : Variables). Some w.outer) is

-- under one binder more, which gives the value x of its type
module _ (values : Values) (ty k x : ℕ) (e : slice_get (values ty) k ≡ Some x) where
  inner-placed : (t j : ℕ) (u q : Option ℕ) → slice_get (values t) j ≡ q → given q ≡ Some u → Placed values (typed_under (Some t) ty) (bound_under u x)
  inner-placed t j u None at is = absurd (none-some u is)
  inner-placed t j u (Some y) at is =
      let same : Some y ≡ u = cc in
      record { outer = suc j; inner = suc k; is = ap₂ (λ p q. variables_of (given p) (given q)) at e ∙ ap (λ w. Some (bound_under w x)) same }

  binder-placed : (t u : Option ℕ) (outer : ℕ) → variable_at values t outer ≡ Some u → Placed values (typed_under t ty) (bound_under u x)
  binder-placed None None zero is = record { outer = suc k; inner = zero; is = ap (λ p. variables_of (given p) (Some None)) e }
  binder-placed None (Some y) zero is = let no : None ≡ Some y = cc in absurd (none-some y no)
  binder-placed None u (suc j) is = absurd (none-some u is)
  binder-placed (Some t) u zero is = absurd (none-some u is)
  binder-placed (Some t) u (suc j) is = inner-placed t j u (slice_get (values t) j) refl is

bound-placed : (values : Values) (b : Binders) (ty x : ℕ) (v : Variables) → Memᴰ x (values ty) → Placed values b v → Placed values (typed_under b.outer ty) (bound x v)
bound-placed values b ty x v m p =
    let k = place-of x (values ty) m in
    binder-placed values ty k.0 x k.1 b.outer v.outer p.outer (outer-of (variable_at values b.outer p.outer) (variable_at values b.inner p.inner) v p.is)

module _ (d : Diagram) (e : Event) (f : InForm e) where
  -- variables that can be in scope at a node
  abbrev InScope : ℕ → Variables → Type 0
  InScope i v = Placed (values_of d.plan.values) (binders_at d.binders i) v

  -- what its tree carries is a candidate
  abbrev At : ℕ → Type 0
  At i = (v : Variables) → InScope i v → Carried (tree_at d.plan i) e v → IsCandidate d e

  abbrev Below : ℕ → Type 0
  Below i = (k : ℕ) → k < i → At k

  arrow-carries : (i : ℕ) (w : NumberedArrow) (v : Variables) → Memᴰ w (arrows_of i 0 (arrows_in d.plan)) → Carries w.arrow e v → InScope i v → IsCandidate d e
  arrow-carries i w v m c p =
      let values = values_of d.plan.values in
      let o = arrow-of i 0 (arrows_in d.plan) w m in
      let there : slice_get (arrows_in d.plan) o.place ≡ Some w.arrow = slice_get-get_or (arrows_in d.plan) o.place blank_arrow o.within ∙ ap Some o.arrow in
      record {
        arrow = o.place;
        outer = p.outer;
        inner = p.inner;
        is_arrow = o.within;
        outer_is_position = subst (λ (n : ℕ). p.outer < n) (ap (λ j. positions_of values (binders_at d.binders j).outer) (sym o.node) ∙ ap (outer_positions_of d) (sym there))
            (⊎_elim (λ lt. lt) (λ ge. absurd (none-some v (sym (outer-past values (binders_at d.binders i) p.outer p.inner ge) ∙ p.is))) (cases_lt p.outer (positions_of values (binders_at d.binders i).outer)));
        inner_is_position = subst (λ (n : ℕ). p.inner < n) (ap (λ j. positions_of values (binders_at d.binders j).inner) (sym o.node) ∙ ap (inner_positions_of d) (sym there))
            (⊎_elim (λ lt. lt) (λ ge. absurd (none-some v (sym (inner-past values (binders_at d.binders i) p.outer p.inner ge) ∙ p.is))) (cases_lt p.inner (positions_of values (binders_at d.binders i).inner)));
        carries = ap (λ a. candidate_of d a p.outer p.inner) there
            ∙ ap (λ j. event_under w.arrow (variables_at (values_of d.plan.values) (binders_at d.binders j) p.outer p.inner)) o.node
            ∙ ap (event_under w.arrow) p.is
            ∙ ap Some (sym (carried-event v w e f c));
      }

  child-carries : (i : ℕ) → Below i → (o : Option ℕ) → ((k : ℕ) → o ≡ Some k → k < i) → ((k : ℕ) → o ≡ Some k → binders_at d.binders k ≡ binders_at d.binders i) → (v : Variables) → InScope i v → Carried (child_tree (tree_at d.plan) o) e v → IsCandidate d e
  child-carries i below None lower same v p c = absurd c
  child-carries i below (Some k) lower same v p c = below k (lower k refl) v (rw (same k refl) p) c

  node-carries : (i : ℕ) → Below i → (n : Node) → Opens d.plan i n → Above d.binders (binders_at d.binders i) n → At i
  node-carries i below (Closure body) o a v p c = below body o.below v (rw a p) (subst (λ (t : Tree). Carried t e v) o.is c)
  node-carries i below (Automaton states) o a v p c =
      ⊎_elim
      (λ w. arrow-carries i w.0 v w.1 w.2 p)
      (λ q. child-carries i below (state_of states q.0).child (o.below q.0) (a q.0) v p q.1)
      (subst (λ (t : Tree). Carried t e v) o.is c)
  node-carries i below (Sequence first second) o a v p c =
      ⊎_elim (λ l. below first o.left_below v (rw a.0 p) l) (λ r. below second o.right_below v (rw a.1 p) r) (subst (λ (t : Tree). Carried t e v) o.is c)
  node-carries i below (Guard guard body) o a v p c = below body o.below v (rw a p) (subst (λ (t : Tree). Carried t e v) o.is c)
  node-carries i below (Choice left right) o a v p c =
      ⊎_elim (λ l. below left o.left_below v (rw a.0 p) l) (λ r. below right o.right_below v (rw a.1 p) r) (subst (λ (t : Tree). Carried t e v) o.is c)
  node-carries i below (Synchronisation left right labels) o a v p c =
      ⊎_elim (λ l. below left o.left_below v (rw a.0 p) l) (λ r. below right o.right_below v (rw a.1 p) r) (subst (λ (t : Tree). Carried t e v) o.is c)
  node-carries i below (QuantifiedChoice over body) o a v p c =
      let q = subst (λ (t : Tree). Carried t e v) o.is c in
      below body o.below (bound q.0 v) (rw a (bound-placed (values_of d.plan.values) (binders_at d.binders i) over q.0 v q.1 p)) q.2
  node-carries i below (QuantifiedSynchronisation over body labels) o a v p c =
      let q = subst (λ (t : Tree). Carried t e v) o.is c in
      below body o.below (bound q.0 v) (rw a (bound-placed (values_of d.plan.values) (binders_at d.binders i) over q.0 v q.1 p)) q.2

  no-tree : (i : ℕ) → slice_get (nodes_of d.plan) i ≡ None → tree_at d.plan i ≡ elementary
  unfolding tree_of
  no-tree i is = ap (node_tree_if (values_of d.plan.values) (arrows_of i 0 (arrows_in d.plan)) (tree_within i (values_of d.plan.values) (drawing d.plan.procedure))) is

  place-carries : (i : ℕ) → Below i → (o : Option Node) → slice_get (nodes_of d.plan) i ≡ o → At i
  place-carries i below None is v p c = absurd (subst (λ (t : Tree). Carried t e v) (no-tree i is) c)
  place-carries i below (Some n) is v p c = node-carries i below n (opens d.plan i n is) (above d.plan i d.binders d.placed n is) v p c

  all-below : (i : ℕ) → Below i
  all-below zero k l = absurd (omega arith)
  all-below (suc i) k l = place-carries k (λ j h. all-below i j (omega arith)) (slice_get (nodes_of d.plan) k) refl

  pub root-carries : Carried (tree_at d.plan (length (nodes_of d.plan) - 1)) e no_variables → IsCandidate d e
  root-carries c =
      let root = length (nodes_of d.plan) - 1 in
      all-below (suc root) root (omega arith) no_variables
      (record { outer = 0; inner = 0; is = ap (λ b. variables_at (values_of d.plan.values) b 0 0) d.rooted })
      c

pub candidates-complete : CandidatesAreComplete
candidates-complete d g e r r' f s = root-carries d e f (step-carried (tree_at d.plan (length (nodes_of d.plan) - 1)) g e no_variables r r' s)

pub at-positions : CandidatesAreAtPositions
at-positions d k outer inner e is = (
  ⊎_elim (λ lt. lt) (λ ge. absurd (none-some e (sym (no-candidate-outer d k outer inner ge) ∙ is))) (cases_lt outer (outer_positions_at d k)),
  ⊎_elim (λ lt. lt) (λ ge. absurd (none-some e (sym (no-candidate-inner d k outer inner ge) ∙ is))) (cases_lt inner (inner_positions_at d k)),
)
