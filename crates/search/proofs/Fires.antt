-- How arrows of an automaton are followed, one after the other.
use Rattle.std.proofs.Common.{◌≡◌, refl, sym, ◌∙◌, ap, subst, ℕ, ◌+◌, ◌-◌, ◌<◌, ◌≤◌, inl, inr, ⊎_elim, List, [], ◌∷◌, ◌++◌, length, take, drop, Some, Result, take-append-drop, arith}
use Rattle.std.specs.List.{slice_get}
use Rattle.std.proofs.lemmas.List.{take_all, take_more}
use Rattle.std.proofs.lemmas.Option.{slice_get_within, get_or_from_slice_get}
use mathlib.Core.List.{Memᴰ}
use mathlib.Core.List.Memᴰ
use Rattle.notation.specs.declared.arrow.Arrow.{Arrow}
use Rattle.notation.specs.declared.node.State.{State}
use Rattle.notation.specs.declared.node.States.{States}
use Rattle.ordered.specs.Held.{held}
use Rattle.row.specs.Laws.{same-row}
use Rattle.row.specs.Rows.{OrderedRows}
use Rattle.row.specs.declared.row.Row.{Row}
use Rattle.rules.specs.Trees.{Guards}
use Rattle.rules.specs.Cells.{width, initial, tagged}
use Rattle.rules.specs.Growing.{state_of, child_tree}
use Rattle.motions.specs.Framing.{framed}
use Rattle.motions.specs.Collecting.{Gained, Stays, Added, AlikeRows, EitherRow}
use Rattle.motions.proofs.Adds.{added-alike, added-then}
use Rattle.diagram.specs.Plans.{nodes_of, tree_at}
use Rattle.diagram.specs.Opening.{StateChildren}
use Rattle.diagram.specs.Parts.{part_width, InPlace}
use Rattle.search.specs.Searching.{LeadsFrom, Follows}
use Rattle.answers.specs.declared.answers.Answers.{Answers}
use Rattle.diagram.specs.declared.diagram.Diagram.{Diagram}
use Rattle.diagram.specs.declared.part.Part.{Part}
use Rattle.diagram.proofs.Begins.{state-room}

-- the child of each state of the automaton at a part is a node, and has room in it behind the state's number
module _ (d : Diagram) (p : Part) (s : States) (i : InPlace d p) (o : StateChildren d.plan p.node s) where
  pub child-node : (q : ℕ) (x : State) → x ≡ state_of s q → (k : ℕ) → x.child ≡ Some k → k < length (nodes_of d.plan)
  child-node q x e k h =
      let b : k < p.node = o.below q k (ap (λ (z : State). z.child) (sym e) ∙ h) in
      let n : p.node < length (nodes_of d.plan) = i.is_node in
      omega arith

  pub child-narrower : (q : ℕ) (x : State) → x ≡ state_of s q → width (child_tree (tree_at d.plan) x.child) < part_width d p
  child-narrower q x e =
      let r = state-room (tree_at d.plan) s q in
      let w = ap width o.is in
      let f = ap (λ (z : State). width (child_tree (tree_at d.plan) z.child)) e in
      omega arith

  pub child-inside : (q : ℕ) (x : State) → x ≡ state_of s q → p.at + 1 + width (child_tree (tree_at d.plan) x.child) ≤ 48
  child-inside q x e = let n = child-narrower q x e in let h = i.is_inside in omega arith

  pub state-inside : p.at < 48
  state-inside = let n = child-inside 0 (state_of s 0) refl in omega arith

module _ (d : Diagram) (a : Answers) (g : Guards) (p : Part) (s : States) (q : ℕ) (r : Row) where
  -- the row in which an arrow that leads out has gone to its target is the only one to which it leads; x and t are its two states
  pub followed : (w : Arrow) (x t : State) (size : ℕ) (z : Row) → x ≡ state_of s q → t ≡ state_of s w.to → size ≡ part_width d p → LeadsFrom d a g p q x.child r w
      → z.cells ≡ framed r.cells p.at size (tagged (size - 1) w.to (initial (child_tree (tree_at d.plan) t.child)))
      → AlikeRows (λ y. y ≡ z) (Follows d a g p s q (state_of s q).child r w)
  followed w x t size z x-is t-is size-is l is = record {
    to = λ y e. (subst (λ (k : State). LeadsFrom d a g p q k.child r w) x-is l, ap (λ (k : Row). k.cells) e ∙ entered);
    fro = λ y f. same-row y z (f.1 ∙ sym entered);
  }
    where
      entered : z.cells ≡ framed r.cells p.at (part_width d p) (tagged (part_width d p - 1) w.to (initial (child_tree (tree_at d.plan) (state_of s w.to).child)))
      entered =
          is
          ∙ ap (λ (n : ℕ). framed r.cells p.at n (tagged (n - 1) w.to (initial (child_tree (tree_at d.plan) t.child)))) size-is
          ∙ ap (λ (k : State). framed r.cells p.at (part_width d p) (tagged (part_width d p - 1) w.to (initial (child_tree (tree_at d.plan) k.child)))) t-is

-- the rows to which some arrows lead, each to those of Y
abbrev pub FromArrows : (Arrow → Row → Type 0) → List Arrow → Row → Type 0
FromArrows Y ws y = (w : Arrow) × Memᴰ w ws × Y w y

module _ (ws : List Arrow) (Y : Arrow → Row → Type 0) where
  -- those of the first n arrows
  abbrev pub First : ℕ → Row → Type 0
  First n = FromArrows Y (take n ws)

  pub fired-none : (y : Row) → First 0 y → ⊥
  fired-none y f = Memᴰ.not-nil f.1

  pub fired-some : (n : ℕ) (y : Row) → First n y → FromArrows Y ws y
  fired-some n y f = (f.0, subst (λ (l : List Arrow). Memᴰ f.0 l) (take-append-drop n ws) (Memᴰ.append_left (drop n ws) f.1), f.2)

  pub fired-all : (n : ℕ) → length ws ≤ n → AlikeRows (First n) (FromArrows Y ws)
  fired-all n h = record { to = fired-some n; fro = λ y f. (f.0, subst (λ (l : List Arrow). Memᴰ f.0 l) (sym (take_all n ws h)) f.1, f.2) }

  fired-more : (n : ℕ) (w : Arrow) → slice_get ws n ≡ Some w → AlikeRows (EitherRow (First n) (Y w)) (First (n + 1))
  fired-more n w e = record { to = to; fro = fro }
    where
      one-more : take (n + 1) ws ≡ take n ws ++ w ∷ []
      one-more = take_more ws n w (slice_get_within ws n w e) ∙ ap (λ (x : Arrow). take n ws ++ x ∷ []) (get_or_from_slice_get ws n w w e)

      to : (y : Row) → EitherRow (First n) (Y w) y → First (n + 1) y
      to y (inl f) = (f.0, subst (λ (l : List Arrow). Memᴰ f.0 l) (sym one-more) (Memᴰ.append_left (w ∷ []) f.1), f.2)
      to y (inr f) = (w, subst (λ (l : List Arrow). Memᴰ w l) (sym one-more) (Memᴰ.append_right (take n ws) (Memᴰ.head refl)), f)

      fro : (y : Row) → First (n + 1) y → EitherRow (First n) (Y w) y
      fro y f =
          ⊎_elim
          (λ m. inl (f.0, m, f.2))
          (λ m. inr (subst (λ (x : Arrow). Y x y) (Memᴰ.eq_of_singleton m) f.2))
          (Memᴰ.append_cases (take n ws) (subst (λ (l : List Arrow). Memᴰ f.0 l) one-more f.1))

  -- a loop over the arrows: the next one
  pub added-fired : {E : Type 0} (n : ℕ) (w : Arrow) (l m l' : OrderedRows) (v : Result (Unit {0}) E)
      → slice_get ws n ≡ Some w → Stays l m → Gained (First n) (held l) (held m) → Added (Y w) m l' v
      → Added (First (n + 1)) l l' v
  added-fired n w l m l' v e k b f =
      added-alike (EitherRow (First n) (Y w)) (First (n + 1)) l l' v (fired-more n w e)
      (added-then (First n) (Y w) l m l' v k b f)
