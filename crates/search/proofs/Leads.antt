-- The arrows of the file that lead out of a state of an automaton are those of its tree.
use Rattle.std.proofs.Common.{◌≡◌, refl, sym, ◌∙◌, ap, subst, ℕ, zero, suc, ◌+◌, ◌<◌, cond, Bool, true, false, true≢false, List, [], ◌∷◌, length, ⊎_elim, ◌==◌, slice_index, slice_index_or, eq-eqb, arith}
use mathlib.Core.List.{Memᴰ}
use mathlib.Core.List.Memᴰ
use Rattle.notation.specs.Parts.{blank_arrow}
use Rattle.notation.specs.declared.arrow.Arrow.{Arrow}
use Rattle.notation.specs.declared.node.States.{States}
use Rattle.row.specs.declared.row.Row.{Row}
use Rattle.rules.specs.Trees.{NumberedArrow, Tree, Guards}
use Rattle.rules.specs.Cells.{Cells, cell, rest, fit, width, part, tagged, in_state, initial, child_room}
use Rattle.rules.specs.Rules.{Leads}
use Rattle.rules.specs.Growing.{state_of, child_tree, arrows_of}
use Rattle.rules.proofs.Growing.{arrow-of}
use Rattle.motions.specs.Framing.{part_at, framed, Framed}
use Rattle.motions.specs.Ways.{Led}
use Rattle.motions.specs.Collecting.{AlikeRows}
use Rattle.motions.proofs.Frames.{cell-at, part-behind}
use Rattle.diagram.specs.Plans.{arrows_in, tree_at}
use Rattle.diagram.specs.Opening.{StateChildren}
use Rattle.diagram.specs.Parts.{part_width}
use Rattle.search.specs.Searching.{cells_of, entered, Fired}
use Rattle.answers.specs.declared.answers.Answers.{Answers}
use Rattle.diagram.specs.declared.diagram.Diagram.{Diagram}
use Rattle.diagram.specs.declared.part.Part.{Part}
use Rattle.diagram.proofs.Begins.{state-room}

-- an element at an index within a list is in it
pub index-in : {A : Type 0} (ws : List A) (d : A) (k : ℕ) → k < length ws → Memᴰ (slice_index_or ws k d) ws
index-in [] d k h = absurd (omega arith)
index-in (a ∷ ws) d zero h = Memᴰ.head refl
index-in (a ∷ ws) d (suc k) h = Memᴰ.tail (index-in ws d k (omega arith))

-- each arrow of node i is one of the file's that has the node i
pub of-file : (i : ℕ) (ws : List Arrow) (w : NumberedArrow) → Memᴰ w (arrows_of i 0 ws) → Memᴰ w.arrow ws × (w.arrow.node ≡ i)
of-file i ws w m =
    let o = arrow-of i 0 ws w m in
    (subst (λ (a : Arrow). Memᴰ a ws) o.arrow (index-in ws blank_arrow o.place o.within), o.node)

-- an arrow is among numbered ones
abbrev pub Among : List NumberedArrow → Arrow → Type 0
Among ns w = (n : NumberedArrow) × Memᴰ n ns × (n.arrow ≡ w)

-- and each of the file's that has the node i is one of node i
pub of-node : (i k : ℕ) (ws : List Arrow) (w : Arrow) → Memᴰ w ws → w.node ≡ i → Among (arrows_of i k ws) w
of-node i k [] w m e = absurd (Memᴰ.not-nil m)
of-node i k (a ∷ ws) w m e =
    ⊎_elim
    (λ p. first p (a.node == i) (eq-eqb a.node i (ap (λ (x : Arrow). x.node) (sym p) ∙ e)))
    (λ j. later (a.node == i) (of-node i (suc k) ws w j e))
    (Memᴰ.cases_cons m)
  where
    first : w ≡ a → (b : Bool) → b ≡ true → Among (cond b (record { number = k; arrow = a } ∷ arrows_of i (suc k) ws) (arrows_of i (suc k) ws)) w
    first p true t = (record { number = k; arrow = a }, Memᴰ.head refl, sym p)
    first p false t = absurd (true≢false (sym t))

    later : (b : Bool) → Among (arrows_of i (suc k) ws) w → Among (cond b (record { number = k; arrow = a } ∷ arrows_of i (suc k) ws) (arrows_of i (suc k) ws)) w
    later true o = (o.0, Memᴰ.tail o.1, o.2)
    later false o = o

module _ (d : Diagram) (a : Answers) (g : Guards) (p : Part) (s : States) (r : Row) (o : StateChildren d.plan p.node s) where
  abbrev count : ℕ
  count = length s.table.items

  abbrev child : ℕ → Tree
  child q = child_tree (tree_at d.plan) (state_of s q).child

  abbrev state : ℕ
  state = slice_index r.cells p.at

  -- the part is one cell wider than the widest child
  pub room-is : part_width d p ≡ suc (child_room count child)
  room-is = ap width o.is

  pub state-is : cell (cells_of d p r) ≡ state
  state-is = ap (λ n. cell (part_at n r.cells p.at)) room-is ∙ cell-at r.cells p.at (child_room count child)

  pub child-is : (q : ℕ) → part (child q) (rest (cells_of d p r)) ≡ part_at (width (child q)) r.cells (p.at + 1)
  child-is q =
      ap (λ n. fit (width (child q)) (rest (part_at n r.cells p.at))) room-is
      ∙ part-behind r.cells p.at (child_room count child) (width (child q)) (state-room (tree_at d.plan) s q)

  pub entered-is : (q : ℕ) → entered d p q (child q) r ≡ framed r.cells p.at (part_width d p) (in_state count child q (initial (child q)))
  entered-is q = ap (λ n. framed r.cells p.at (part_width d p) (tagged n q (initial (child q)))) (let e = room-is in omega arith)

  -- an arrow leads out of the part's state if it leads out of the state of its cells
  abbrev LeadsOut : Arrow → ℕ → Cells → Type 0
  LeadsOut w q c = Leads g a.event p.scope.variables q (child q) c w

  abbrev here : Cells
  here = part_at (width (child state)) r.cells (p.at + 1)

  back : (w : Arrow) → LeadsOut w state here → LeadsOut w (cell (cells_of d p r)) (part (child (cell (cells_of d p r))) (rest (cells_of d p r)))
  back w l = subst (λ (q : ℕ). LeadsOut w q (part (child q) (rest (cells_of d p r)))) (sym state-is) (subst (LeadsOut w state) (sym (child-is state)) l)

  forth : (w : Arrow) → LeadsOut w (cell (cells_of d p r)) (part (child (cell (cells_of d p r))) (rest (cells_of d p r))) → LeadsOut w state here
  forth w l = subst (LeadsOut w state) (child-is state) (subst (λ (q : ℕ). LeadsOut w q (part (child q) (rest (cells_of d p r)))) state-is l)

  abbrev Goes : Arrow → Row → Type 0
  Goes w y = y.cells ≡ entered d p w.to (child w.to) r

  -- the rows to which the file's arrows lead are those to which the tree's do
  pub fired-led : AlikeRows (Fired (arrows_in d.plan) d a g p s state (state_of s state).child r)
      (Framed r.cells p.at (part_width d p) (Led count child (arrows_of p.node 0 (arrows_in d.plan)) g a.event p.scope.variables (cells_of d p r)))
  fired-led = record {
    to = λ y f.
        let n = of-node p.node 0 (arrows_in d.plan) f.0 f.1 f.2.0.0 in
        led y n.0 n.1 (subst (λ (w : Arrow). LeadsOut w state here) (sym n.2) f.2.0.1) (subst (λ (w : Arrow). Goes w y) (sym n.2) f.2.1);
    fro = λ y f.
        let w = f.1 in
        let of = of-file p.node (arrows_in d.plan) w.0 w.1 in
        (w.0.arrow, of.0, ((of.1, forth w.0.arrow w.2), f.2 ∙ ap (framed r.cells p.at (part_width d p)) w.3 ∙ sym (entered-is w.0.arrow.to)));
  }
    where
      led : (y : Row) (n : NumberedArrow) → Memᴰ n (arrows_of p.node 0 (arrows_in d.plan)) → LeadsOut n.arrow state here → Goes n.arrow y
          → Framed r.cells p.at (part_width d p) (Led count child (arrows_of p.node 0 (arrows_in d.plan)) g a.event p.scope.variables (cells_of d p r)) y
      led y n m l q = (in_state count child n.arrow.to (initial (child n.arrow.to)), (n, m, back n.arrow l, refl), q ∙ entered-is n.arrow.to)
