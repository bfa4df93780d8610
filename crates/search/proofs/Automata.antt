-- An automaton: an arrow leads out of its state, or the state's child moves.
use Rattle.std.proofs.Common.{◌≡◌, refl, sym, ◌∙◌, ap, subst, ℕ, suc, ◌+◌, ◌-◌, ◌<◌, ◌≤◌, true, inl, ⊎_elim, List, length, slice_index, Option, Some, None, Result, arith}
use Rattle.std.specs.List.{slice_get}
use Rattle.std.specs.Result.{IsErr}
use Rattle.std.proofs.lemmas.Result.{MatchResult-from_err}
use Rattle.ordered.specs.Held.{held, room}
use Rattle.row.specs.Rows.{OrderedRows}
use Rattle.row.specs.declared.row.Row.{Row}
use Rattle.notation.specs.declared.node.Node.TheVariants.{Automaton}
use Rattle.notation.specs.declared.node.State.{State}
use Rattle.notation.specs.declared.node.States.{States}
use Rattle.rules.specs.Trees.{Tree, NumberedArrow, elementary, Guards}
use Rattle.rules.specs.Cells.{width, child_room}
use Rattle.rules.specs.Rules.{Step}
use Rattle.rules.specs.Growing.{state_of, child_tree, arrows_of}
use Rattle.motions.specs.Framing.{part_at}
use Rattle.motions.specs.Ways.{Way, Alike, If, Either, Tagged, Led}
use Rattle.motions.specs.Collecting.{Gained, Exceeds, Stays, Added, AlikeRows, EitherRow}
use Rattle.motions.proofs.Framed.{framed-alike, framed-either, framed-yes}
use Rattle.motions.proofs.Adds.{added-alike, added-overflow, added-then, gained-alike, rows-refl, rows-sym, rows-trans, rows-either}
use Rattle.diagram.specs.Valued.{values_of}
use Rattle.diagram.specs.Plans.{nodes_of, arrows_in, tree_at}
use Rattle.diagram.specs.Scopes.{binders_at, Suits}
use Rattle.diagram.specs.Opening.{StateChildren}
use Rattle.diagram.specs.Parts.{part_width, InPlace}
use Rattle.search.specs.Searching.{cells_of, Behind, Fired, successors, Reached, PartReached}
use Rattle.answers.specs.declared.answers.Answers.{Answers}
use Rattle.diagram.specs.declared.binders.Binders.{Binders}
use Rattle.diagram.specs.declared.diagram.Diagram.{Diagram}
use Rattle.diagram.specs.declared.part.Part.{Part}
use Rattle.diagram.proofs.Begins.{state-room}
use Rattle.motions.proofs.Arms.{automaton-arm}
use Rattle.search.proofs.Leads.{fired-led}
use Rattle.search.proofs.Fires.{child-node, child-narrower, child-inside}
use Rattle.diagram.proofs.Opens.{opens, above}

module _ (d : Diagram) (a : Answers) (g : Guards) (p : Part) (s : States) (r : Row) (o : StateChildren d.plan p.node s) where
  abbrev count : ℕ
  count = length s.table.items

  abbrev child : ℕ → Tree
  child q = child_tree (tree_at d.plan) (state_of s q).child

  abbrev state : ℕ
  state = slice_index r.cells p.at

  abbrev arrows : List NumberedArrow
  arrows = arrows_of p.node 0 (arrows_in d.plan)

  abbrev FiredHere : Row → Type 0
  FiredHere y = Fired (arrows_in d.plan) d a g p s state (state_of s state).child r y

  abbrev LedOut : Way
  LedOut = Led count child arrows g a.event p.scope.variables (cells_of d p r)

  abbrev Moved : Tree → Way
  Moved c = Tagged (part_width d p - 1) state (Step c g a.event p.scope.variables (part_at (width c) r.cells (p.at + 1)))

  arm : (c : Tree) → child state ≡ c → Alike (successors d a g p r) (Either LedOut (Moved c))
  arm c e =
      let fits : width c ≤ child_room count child = subst (λ (t : Tree). width t ≤ child_room count child) e (state-room (tree_at d.plan) s state) in
      subst (λ (T : Tree). Alike (Step T g a.event p.scope.variables (part_at (width T) r.cells p.at))
      (Either (Led count child arrows g a.event p.scope.variables (part_at (width T) r.cells p.at)) (Tagged (width T - 1) state (Step c g a.event p.scope.variables (part_at (width c) r.cells (p.at + 1))))))
      (sym o.is)
      (automaton-arm g a.event p.scope.variables r.cells p.at count s.start (λ q. (state_of s q).mark) child arrows c p.scope.variables (suc (child_room count child) - 1) (p.at + 1) e fits refl (omega arith) refl)

  fired-or-moved : (c : Tree) → child state ≡ c → AlikeRows (EitherRow FiredHere (PartReached d p r (Moved c))) (Reached d a g p r)
  fired-or-moved c e =
      rows-trans (EitherRow FiredHere (PartReached d p r (Moved c))) (EitherRow (PartReached d p r LedOut) (PartReached d p r (Moved c))) (Reached d a g p r)
      (rows-either FiredHere (PartReached d p r LedOut) (PartReached d p r (Moved c)) (PartReached d p r (Moved c)) (fired-led d a g p s r o) (rows-refl (PartReached d p r (Moved c))))
      (rows-trans (EitherRow (PartReached d p r LedOut) (PartReached d p r (Moved c))) (PartReached d p r (Either LedOut (Moved c))) (Reached d a g p r)
      (rows-sym (PartReached d p r (Either LedOut (Moved c))) (EitherRow (PartReached d p r LedOut) (PartReached d p r (Moved c))) (framed-either r.cells p.at (part_width d p) LedOut (Moved c)))
      (rows-sym (Reached d a g p r) (PartReached d p r (Either LedOut (Moved c))) (framed-alike r.cells p.at (part_width d p) (successors d a g p r) (Either LedOut (Moved c)) (arm c e))))

  -- the rows to which arrows lead are among those that are reached
  fired-reached : (y : Row) → FiredHere y → Reached d a g p r y
  fired-reached y f = (fired-or-moved (child state) refl).to y (inl f)

  -- too many of them are too many
  pub fired-over : {E : Type 0} (l l' : OrderedRows) (res : Result (Unit {0}) E) → IsErr res → Exceeds FiredHere (room l) (held l) → Added (Reached d a g p r) l l' res
  fired-over l l' res err many =
      MatchResult-from_err res (λ u. Gained (Reached d a g p r) (held l) (held l')) (λ e. Exceeds (Reached d a g p r) (room l) (held l)) err
      (λ e. added-overflow FiredHere (Reached d a g p r) l many fired-reached)

  -- x is the state
  module _ (x : State) (is : x ≡ state_of s state) where
    -- it has no child: they are all
    only-fired : x.child ≡ None → AlikeRows FiredHere (Reached d a g p r)
    only-fired none = record {
      to = fired-reached;
      fro = λ y h. ⊎_elim (λ f. f) (λ m. absurd m.1.1) ((fired-or-moved elementary (ap (λ (z : State). child_tree (tree_at d.plan) z.child) (sym is) ∙ ap (child_tree (tree_at d.plan)) none)).fro y h);
    }

    -- so they are gained
    pub childless-added : x.child ≡ None → (l l' : OrderedRows) → Gained FiredHere (held l) (held l') → Gained (Reached d a g p r) (held l) (held l')
    childless-added none l l' fired = gained-alike FiredHere (Reached d a g p r) (held l) (held l') (only-fired none) fired

    -- it has a child, whose part is c: this moves, too
    module _ (k : ℕ) (some : x.child ≡ Some k) (c : Part) (of : c ≡ record { node = k; at = p.at + 1; scope = p.scope }) where
      abbrev Resumed : Row → Type 0
      Resumed y = PartReached d p r (If true (Tagged (part_width d p - 1) state (successors d a g c r))) y

      fired-or-resumed : AlikeRows (EitherRow FiredHere Resumed) (Reached d a g p r)
      fired-or-resumed =
          subst (λ (q : Part). AlikeRows (EitherRow FiredHere (PartReached d p r (If true (Tagged (part_width d p - 1) state (successors d a g q r))))) (Reached d a g p r)) (sym of)
          (rows-trans (EitherRow FiredHere (PartReached d p r (If true (Moved (tree_at d.plan k))))) (EitherRow FiredHere (PartReached d p r (Moved (tree_at d.plan k)))) (Reached d a g p r)
          (rows-either FiredHere FiredHere (PartReached d p r (If true (Moved (tree_at d.plan k)))) (PartReached d p r (Moved (tree_at d.plan k))) (rows-refl FiredHere)
          (rows-sym (PartReached d p r (Moved (tree_at d.plan k))) (PartReached d p r (If true (Moved (tree_at d.plan k)))) (framed-yes r.cells p.at (part_width d p) (Moved (tree_at d.plan k)))))
          (fired-or-moved (tree_at d.plan k) (ap (λ (z : State). child_tree (tree_at d.plan) z.child) (sym is) ∙ ap (child_tree (tree_at d.plan)) some)))

      -- the rows to which arrows lead, and then those of the child
      pub state-added : {E : Type 0} (l m l' : OrderedRows) (res : Result (Unit {0}) E) → Stays l m
          → Gained FiredHere (held l) (held m) → Added Resumed m l' res → Added (Reached d a g p r) l l' res
      state-added l m l' res stays fired moved =
          added-alike (EitherRow FiredHere Resumed) (Reached d a g p r) l l' res fired-or-resumed (added-then FiredHere Resumed l m l' res stays fired moved)

-- the child of a state stands behind the state's number
pub state-behind : (d : Diagram) (p : Part) (s : States) (q : ℕ) (x : State) (k : ℕ) (c : Part) → InPlace d p → slice_get (nodes_of d.plan) p.node ≡ Some (Automaton s)
    → x ≡ state_of s q → x.child ≡ Some k → c ≡ record { node = k; at = p.at + 1; scope = p.scope } → Behind d p c
state-behind d p s q x k c i node is some of =
    let o : StateChildren d.plan p.node s = opens d.plan p.node (Automaton s) node in
    let e : (state_of s q).child ≡ Some k = ap (λ (z : State). z.child) (sym is) ∙ some in
    let inside : p.at + 1 + width (tree_at d.plan k) ≤ 48 = subst (λ (n : Option ℕ). p.at + 1 + width (child_tree (tree_at d.plan) n) ≤ 48) some (child-inside d p s i o q x is) in
    let narrow : width (tree_at d.plan k) < part_width d p = subst (λ (n : Option ℕ). width (child_tree (tree_at d.plan) n) < part_width d p) some (child-narrower d p s i o q x is) in
    let up : binders_at d.binders k ≡ binders_at d.binders p.node = above d.plan p.node d.binders d.placed (Automaton s) node q k e in
    subst (Behind d p) (sym of) (record {
      in_place = record {
        is_node = child-node d p s i o q x is k some;
        is_inside = inside;
        suits = subst (λ (bs : Binders). Suits (values_of d.plan.values) bs p.scope) (sym up) i.suits;
      };
      is_below = o.below q k e;
      is_behind = refl;
      is_narrower = narrow;
    })
