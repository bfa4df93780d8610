-- A node's tree is made of its children's trees, and it is sound.
use Rattle.std.proofs.Common.{◌≡◌, refl, sym, ◌∙◌, ap, ap₂, subst, ℕ, zero, suc, ◌+◌, ◌<◌, ◌≤◌, cond, Bool, true, false, ◌&&◌, List, [], ◌∷◌, ◌++◌, take, length, Option, Some, None, ⊎_elim, ◌==◌, slice_index_or, not-suc-le-zero, add-zero, length-take-le, eqb-true, ltb-true, arith}
use Rattle.std.proofs.lemmas.Bool.{and_parts}
use Rattle.std.proofs.lemmas.List.{get_or_past}
use Rattle.std.proofs.lemmas.Option.{none-some, slice_get_within, get_or_from_slice_get}
use Rattle.std.specs.List.{slice_get}
use Rattle.std.specs.Option.{option_to_list}
use mathlib.Core.Path.{fun_ext}
use mathlib.Core.List.{Memᴰ}
use mathlib.Core.List.Memᴰ
use Rattle.notation.specs.Parts.{blank_state, blank_node, blank_arrow, children_of, children_of_states, states_of}
use Rattle.notation.specs.declared.node.State.{State}
use Rattle.notation.specs.declared.node.States.{States}
use Rattle.notation.specs.declared.node.Node.{Node}
use Rattle.notation.specs.declared.node.Node.TheVariants.{Closure, Automaton, Sequence, Guard, Choice, Synchronisation, QuantifiedChoice, QuantifiedSynchronisation}
use Rattle.notation.specs.declared.arrow.Arrow.{Arrow}
use Rattle.record.proofs.Below.{all-at}
use Rattle.procedure.specs.Drawings.{Drawing}
use Rattle.procedure.specs.Scopes.{children_free, arrow_placed}
use Rattle.procedure.specs.Sound.{node_sound, nodes_sound, arrow_sound, arrows_sound, sound}
use Rattle.rules.specs.Trees.{NumberedArrow, Tree, elementary, automaton, sequence, closure, guarded, choice, synchronisation, quantified_choice, quantified_synchronisation}
use Rattle.rules.specs.InRange.{Sound}
use Rattle.rules.specs.Growing.{Values, state_of, labels_of, arrows_of, child_tree, node_tree, node_tree_if, tree_within, tree_of}

-- every child is below i
abbrev pub Below : ℕ → List ℕ → Type 0
Below i ks = (k : ℕ) → Memᴰ k ks → k < i

abbrev pub ChildrenBelow : Drawing → Type 0
ChildrenBelow d = (i : ℕ) (n : Node) → slice_get d.nodes i ≡ Some n → Below i (children_of n)

-- the child of a state is among those of all
child-among : (s : List State) (q j : ℕ) → (slice_index_or s q blank_state).child ≡ Some j → Memᴰ j (children_of_states s)
child-among [] q j e = absurd (none-some j e)
child-among (x ∷ s) zero j e = Memᴰ.append_left (children_of_states s) (rw e (Memᴰ.head refl))
child-among (x ∷ s) (suc q) j e = Memᴰ.append_right (option_to_list x.child) (child-among s q j e)

free-below : (ns : List Node) (before ks : List ℕ) → children_free ns before ks ≡ true → Below (length ns) ks
free-below ns before [] h k m = absurd (Memᴰ.not-nil m)
free-below ns before (x ∷ ks) h k m =
    let p = and_parts _ _ h in
    let q = and_parts _ _ p.1 in
    let r = and_parts _ _ q.1 in
    ⊎_elim (λ e. rw e (ltb-true x (length ns) p.0)) (λ i. free-below ns (before ++ x ∷ []) ks r.1 k i) (Memᴰ.cases_cons m)

module _ (d : Drawing) (s : sound d.nodes d.arrows ≡ true) where
  parts : (nodes_sound d.nodes ≡ true) × (arrows_sound d.nodes d.arrows ≡ true)
  unfolding sound
  parts = let p = and_parts _ _ s in (p.0, (and_parts _ _ p.1).0)

  pub node-parts : (i : ℕ) (n : Node) → slice_get d.nodes i ≡ Some n → (node_sound n ≡ true) × (children_free (take i d.nodes) [] (children_of n) ≡ true)
  node-parts i n e =
      let lt = slice_get_within d.nodes i n e in
      let is : slice_index_or d.nodes i blank_node ≡ n = get_or_from_slice_get d.nodes i n blank_node e in
      let h = all-at (λ j. node_sound (slice_index_or d.nodes j blank_node) && children_free (take j d.nodes) [] (children_of (slice_index_or d.nodes j blank_node))) (length d.nodes) i parts.0 lt in
      let p = and_parts _ _ h in
      (subst (λ (x : Node). node_sound x ≡ true) is p.0, subst (λ (x : Node). children_free (take i d.nodes) [] (children_of x) ≡ true) is p.1)

  pub children-below : ChildrenBelow d
  children-below i n e =
      let lt = slice_get_within d.nodes i n e in
      let l : length (take i d.nodes) ≡ i = length-take-le i d.nodes (omega arith) in
      subst (λ (j : ℕ). Below j (children_of n)) l (free-below (take i d.nodes) [] (children_of n) (node-parts i n e).1)

child-same : (s t : ℕ → Tree) (i : ℕ) → ((j : ℕ) → j < i → s j ≡ t j) → (o : Option ℕ) → ((j : ℕ) → o ≡ Some j → j < i) → child_tree s o ≡ child_tree t o
child-same s t i h None b = refl
child-same s t i h (Some j) b = h j (b j refl)

pub state-child : (s : States) (q j : ℕ) → (state_of s q).child ≡ Some j → Memᴰ j (children_of (Automaton s))
state-child s q j e = child-among s.table.items q j e

node-same : (values : Values) (ws : List NumberedArrow) (s t : ℕ → Tree) (i : ℕ) → ((j : ℕ) → j < i → s j ≡ t j) → (n : Node) → Below i (children_of n) → node_tree values ws s n ≡ node_tree values ws t n
node-same values ws s t i h (Closure body) b = ap closure (h body (b body (Memᴰ.head refl)))
node-same values ws s t i h (Automaton st) b =
    ap (λ f. automaton (length st.table.items) st.start (λ q. (state_of st q).mark) f ws) (fun_ext (λ q. child-same s t i h (state_of st q).child (λ j e. b j (state-child st q j e))))
node-same values ws s t i h (Sequence first second) b = ap₂ sequence (h first (b first (Memᴰ.head refl))) (h second (b second (Memᴰ.tail (Memᴰ.head refl))))
node-same values ws s t i h (Guard guard body) b = ap (guarded guard) (h body (b body (Memᴰ.head refl)))
node-same values ws s t i h (Choice left right) b = ap₂ choice (h left (b left (Memᴰ.head refl))) (h right (b right (Memᴰ.tail (Memᴰ.head refl))))
node-same values ws s t i h (Synchronisation left right labels) b = ap₂ (synchronisation (labels_of labels)) (h left (b left (Memᴰ.head refl))) (h right (b right (Memᴰ.tail (Memᴰ.head refl))))
node-same values ws s t i h (QuantifiedChoice over body) b = ap (quantified_choice (values over)) (h body (b body (Memᴰ.head refl)))
node-same values ws s t i h (QuantifiedSynchronisation over body labels) b = ap (quantified_synchronisation (values over) (labels_of labels)) (h body (b body (Memᴰ.head refl)))

same-if : (values : Values) (ws : List NumberedArrow) (s t : ℕ → Tree) (i : ℕ) → ((j : ℕ) → j < i → s j ≡ t j) → (o : Option Node) → ((n : Node) → o ≡ Some n → Below i (children_of n)) → node_tree_if values ws s o ≡ node_tree_if values ws t o
same-if values ws s t i h None b = refl
same-if values ws s t i h (Some n) b = node-same values ws s t i h n (b n refl)

module _ (values : Values) (d : Drawing) (below : ChildrenBelow d) where
  -- a tree is the same at every depth that suffices
  steady : (depth depth' i : ℕ) → i < depth → i < depth' → tree_within depth values d i ≡ tree_within depth' values d i
  steady zero depth' i p q = absurd (not-suc-le-zero p)
  steady (suc depth) zero i p q = absurd (not-suc-le-zero q)
  steady (suc depth) (suc depth') i p q =
      same-if values (arrows_of i 0 d.arrows) (tree_within depth values d) (tree_within depth' values d) i (λ j u. steady depth depth' j (omega arith) (omega arith)) (slice_get d.nodes i) (below i)

  pub tree-unfolds : (i : ℕ) (n : Node) → slice_get d.nodes i ≡ Some n → tree_of values d i ≡ node_tree values (arrows_of i 0 d.arrows) (tree_of values d) n
  unfolding tree_of
  tree-unfolds i n e =
      ap (node_tree_if values (arrows_of i 0 d.arrows) (tree_within i values d)) e
      ∙ node-same values (arrows_of i 0 d.arrows) (tree_within i values d) (tree_of values d) i (λ j u. steady i (suc j) j u (omega arith)) n (below i n e)

-- an arrow of node i among ws, of which the first has the number k
pub record OfNode (i k : ℕ) (ws : List Arrow) (w : NumberedArrow) : Type 0 where
  pub place : ℕ
  pub within : place < length ws
  pub numbered : w.number ≡ k + place
  pub arrow : slice_index_or ws place blank_arrow ≡ w.arrow
  pub node : w.arrow.node ≡ i

pub arrow-of : (i k : ℕ) (ws : List Arrow) (w : NumberedArrow) → Memᴰ w (arrows_of i k ws) → OfNode i k ws w
arrow-of i k [] w m = absurd (Memᴰ.not-nil m)
arrow-of i k (a ∷ ws) w m = at (a.node == i) refl (λ n. arrow-of i (suc k) ws w n) m
  where
    later : OfNode i (suc k) ws w → OfNode i k (a ∷ ws) w
    later o = record { place = suc o.place; within = omega (arith, o.within); numbered = omega (arith, o.numbered); arrow = o.arrow; node = o.node }

    at : (b : Bool) → a.node == i ≡ b → (Memᴰ w (arrows_of i (suc k) ws) → OfNode i (suc k) ws w) → Memᴰ w (cond b (record { number = k; arrow = a } ∷ arrows_of i (suc k) ws) (arrows_of i (suc k) ws)) → OfNode i k (a ∷ ws) w
    at true is below n =
        ⊎_elim
        (λ e. record {
          place = 0;
          within = omega arith;
          numbered = ap (λ (x : NumberedArrow). x.number) e ∙ sym (add-zero k);
          arrow = ap (λ (x : NumberedArrow). x.arrow) (sym e);
          node = ap (λ (x : NumberedArrow). x.arrow.node) e ∙ eqb-true a.node i is;
        })
        (λ r. later (below r))
        (Memᴰ.cases_cons n)
    at false is below n = later (below n)

-- every arrow of node i leads to one of its states
arrows-end : (d : Drawing) → sound d.nodes d.arrows ≡ true → (i : ℕ) (n : Node) → slice_get d.nodes i ≡ Some n → (w : NumberedArrow) → Memᴰ w (arrows_of i 0 d.arrows) → w.arrow.to < states_of n
arrows-end d s i n e w m =
    let o = arrow-of i 0 d.arrows w m in
    let is : slice_index_or d.nodes i blank_node ≡ n = get_or_from_slice_get d.nodes i n blank_node e in
    let h = (and_parts _ _ (all-at (λ j. arrow_sound (slice_index_or d.arrows j blank_arrow) && arrow_placed d.nodes (slice_index_or d.arrows j blank_arrow)) (length d.arrows) o.place (parts d s).1 o.within)).1 in
    let p : arrow_placed d.nodes w.arrow ≡ true = subst (λ (a : Arrow). arrow_placed d.nodes a ≡ true) o.arrow h in
    let q = ltb-true w.arrow.to (states_of (slice_index_or d.nodes w.arrow.node blank_node)) (and_parts _ _ p).1 in
    subst (λ (x : Node). w.arrow.to < states_of x) is (subst (λ (j : ℕ). w.arrow.to < states_of (slice_index_or d.nodes j blank_node)) o.node q)

past-states : (t : ℕ → Tree) (s : States) (q : ℕ) → length s.table.items ≤ q → child_tree t (state_of s q).child ≡ elementary
past-states t s q h = ap (λ (x : State). child_tree t x.child) (get_or_past s.table.items q blank_state h)

sound-child : (t : ℕ → Tree) → ((j : ℕ) → Sound (t j)) → (o : Option ℕ) → Sound (child_tree t o)
sound-child t h None = tt
sound-child t h (Some j) = h j

sound-node : (values : Values) (ws : List NumberedArrow) (t : ℕ → Tree) → ((j : ℕ) → Sound (t j)) → (n : Node) → node_sound n ≡ true → ((w : NumberedArrow) → Memᴰ w ws → w.arrow.to < states_of n) → Sound (node_tree values ws t n)
sound-node values ws t h (Closure body) s a = h body
sound-node values ws t h (Automaton st) s a =
    let p = and_parts _ _ s in
    let q = and_parts _ _ p.1 in
    let r = and_parts _ _ q.1 in
    (ltb-true st.start (length st.table.items) r.0, a, past-states t st, λ k. sound-child t h (state_of st k).child)
sound-node values ws t h (Sequence first second) s a = (h first, h second)
sound-node values ws t h (Guard guard body) s a = h body
sound-node values ws t h (Choice left right) s a = (h left, h right)
sound-node values ws t h (Synchronisation left right labels) s a = (h left, h right)
sound-node values ws t h (QuantifiedChoice over body) s a = h body
sound-node values ws t h (QuantifiedSynchronisation over body labels) s a = h body

module _ (values : Values) (d : Drawing) (s : sound d.nodes d.arrows ≡ true) where
  sound-if : (t : ℕ → Tree) → ((j : ℕ) → Sound (t j)) → (i : ℕ) (o : Option Node) → slice_get d.nodes i ≡ o → Sound (node_tree_if values (arrows_of i 0 d.arrows) t o)
  sound-if t h i None e = tt
  sound-if t h i (Some n) e = sound-node values (arrows_of i 0 d.arrows) t h n (node-parts d s i n e).0 (arrows-end d s i n e)

  sound-within : (depth i : ℕ) → Sound (tree_within depth values d i)
  sound-within zero i = tt
  sound-within (suc depth) i = sound-if (tree_within depth values d) (sound-within depth) i (slice_get d.nodes i) refl

  pub tree-sound : (i : ℕ) → Sound (tree_of values d i)
  unfolding tree_of
  tree-sound i = sound-within (suc i) i
